-- `sheet::read` meets its contract. Assumes nothing.
use Rattle.std.proofs.Common.{rules, ◌≡◌, sym, ◌∙◌, length}
use Rattle.model.specs.Limits.{NEXT_ENTRIES, OUTPUT_ENTRIES, VIEW_ENTRIES}
use Rattle.sheet.proofs.Outcome.{wrong_next, wrong_outputs, wrong_views, a_refusal, a_model}
use Rattle.sheet.proofs.read.Goals as goal

pub returns-in_default : goal.returns-in_default
returns-in_default c =
    let g = c.args in
    let n : length g.next.now ≡ NEXT_ENTRIES → ⊥ = search rules in
    rw c.into.ensures (wrong_next g.text.now g.next.now g.outputs.now g.views.now n)

pub returns-in_default-as_mut_array : goal.returns-in_default-as_mut_array
returns-in_default-as_mut_array c =
    let g = c.args in
    let s : c.in-Some.next.now ≡ g.next.now = search rules in
    let p : length g.next.now ≡ NEXT_ENTRIES = search rules in
    let n : length g.outputs.now ≡ OUTPUT_ENTRIES → ⊥ = search rules in
    rw (c.into-in_default-as_mut_array.ensures, s) (wrong_outputs g.text.now g.next.now g.outputs.now g.views.now p n)

pub returns-in_default-as_mut_array-2 : goal.returns-in_default-as_mut_array-2
returns-in_default-as_mut_array-2 c =
    let g = c.args in
    let s : c.in-Some.next.now ≡ g.next.now = search rules in
    let o : c.in-Some-as_mut_array.outputs.now ≡ g.outputs.now = search rules in
    let p : length g.next.now ≡ NEXT_ENTRIES = search rules in
    let q : length g.outputs.now ≡ OUTPUT_ENTRIES = search rules in
    let n : length g.views.now ≡ VIEW_ENTRIES → ⊥ = search rules in
    rw (c.into-in_default-as_mut_array-2.ensures, s, o) (wrong_views g.text.now g.next.now g.outputs.now g.views.now p q n)

pub returns-then-is_err : goal.returns-then-is_err
returns-then-is_err c =
    let g = c.args in
    let p : length g.next.now ≡ NEXT_ENTRIES = search rules in
    let q : length g.outputs.now ≡ OUTPUT_ENTRIES = search rules in
    let r : length g.views.now ≡ VIEW_ENTRIES = search rules in
    let z = c.zero_all-then-is_err.ensures in
    a_refusal g.text.now g.next.now g.outputs.now g.views.now p q r c.read_text-model.result _ _ _ _ _ c.read_text-model.ensures (sym c.is_err.ensures.value ∙ c.if-is_err.true) z.0 z.1 z.2

pub returns-else-is_err : goal.returns-else-is_err
returns-else-is_err c =
    let g = c.args in
    let p : length g.next.now ≡ NEXT_ENTRIES = search rules in
    let q : length g.outputs.now ≡ OUTPUT_ENTRIES = search rules in
    let r : length g.views.now ≡ VIEW_ENTRIES = search rules in
    a_model g.text.now g.next.now g.outputs.now g.views.now p q r c.read_text-model.result _ _ _ c.read_text-model.ensures (sym c.is_err.ensures.value ∙ c.if-is_err.false)
