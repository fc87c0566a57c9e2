-- `text::more_from` meets its contract. Assumes nothing.
use Rattle.std.proofs.Common.{◌≡◌, ◌+◌, ◌-◌, Some, length, get_or, drop, sym, refl, ◌∙◌, arith, length-drop}
use Rattle.text.specs.Number.{digit}
use Rattle.text.proofs.Parts.{tail_is, byte_is, end_here}
use Rattle.text.proofs.Digits.{digit_no_tab, digit_some, more_over, more_here, more_bad, more_good}
use Rattle.text.proofs.more_from.Goals as goal

pub returns-then-byte-eq9 : goal.returns-then-byte-eq9
returns-then-byte-eq9 c =
    let rest : c.unwrap_or-rest.result.now ≡ drop c.args.at c.args.line.now = rw c.unwrap_or-rest.ensures (tail_is c.args.line.now c.args.at c.get.result _ refl c.get.ensures.lookup.0) in
    let b = byte_is c.args.line.now c.args.at c.loop-i.i rest (omega arith) in
    let e : c.find-end.result ≡ c.args.at + c.loop-i.i = c.find-end.ensures ∙ end_here c.args.line.now 9 (c.args.at + c.loop-i.i) b.0 (b.1 ∙ c.if-byte-eq9.true) in
    rw e (more_here _ _ _ b.0 _ (b.1 ∙ c.if-byte-eq9.true) ∙ c.loop-i.invariant.says)

pub returns-else-byte-eq9 : goal.returns-else-byte-eq9
returns-else-byte-eq9 c =
    let rest : c.unwrap_or-rest.result.now ≡ drop c.args.at c.args.line.now = rw c.unwrap_or-rest.ensures (tail_is c.args.line.now c.args.at c.get.result _ refl c.get.ensures.lookup.0) in
    let b = byte_is c.args.line.now c.args.at c.loop-i.i rest (omega arith) in
    rw c.find-end.ensures (more_bad _ _ _ b.0 (λ e. c.if-byte-eq9.false (sym b.1 ∙ e)) _ (λ z. let p = c.loop-i.invariant.some in omega arith) (rw b.1 (sym c.grown.ensures ∙ c.in_default.is)) ∙ c.loop-i.invariant.says)

pub loop-i-preserved : goal.loop-i-preserved
loop-i-preserved c =
    let rest : c.unwrap_or-rest.result.now ≡ drop c.args.at c.args.line.now = rw c.unwrap_or-rest.ensures (tail_is c.args.line.now c.args.at c.get.result _ refl c.get.ensures.lookup.0) in
    let b = byte_is c.args.line.now c.args.at c.loop-i.i rest (omega arith) in
    let g : digit c.args.limit c.loop-i.value (get_or c.args.line.now (c.args.at + c.loop-i.i) 0) ≡ Some c.in-Some.v = rw b.1 (sym c.grown.ensures ∙ c.in-Some.is) in
    let l = c.loop-i.invariant in
    let a : c.args.at + (c.loop-i.i + 1) ≡ c.args.at + c.loop-i.i + 1 = omega arith in
    rw a (record { some = digit_some _ _ _ _ g l.some; says = more_good _ _ _ b.0 (digit_no_tab _ _ _ _ g) _ _ (λ z. let p = l.some in omega arith) g ∙ l.says })

pub returns : goal.returns
returns c =
    let rest : c.unwrap_or-rest.result.now ≡ drop c.args.at c.args.line.now = rw c.unwrap_or-rest.ensures (tail_is c.args.line.now c.args.at c.get.result _ refl c.get.ensures.lookup.0) in
    let n : length c.unwrap_or-rest.result.now ≡ c.loop-i.i = omega arith in
    let k : length c.unwrap_or-rest.result.now ≡ length c.args.line.now - c.args.at = rw rest (length-drop c.args.at c.args.line.now) in
    rw n (more_over _ _ _ _ (omega arith) ∙ c.loop-i.invariant.says)
