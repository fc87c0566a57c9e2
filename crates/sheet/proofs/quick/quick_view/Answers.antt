-- `sheet::quick::quick_view` meets its contract. Assumes nothing.
use Prim.Native.Nat.{◌+◌}
use native.Mathlib.Omega.{arith}
use Rattle.sheet.specs.Words as words
use Rattle.sheet.proofs.OnePass.{goes_on, number_at, word_at, ends, onward, line_of, quick_view}
use Rattle.sheet.proofs.quick.quick_view.Goals as goal

pub overflow_add-at : goal.overflow_add-at
overflow_add-at c = omega (arith, goes_on c.args.sheet.ended (word_at _ words.view _ (c.args.at + 5) c.begins.result c.if-begins.true c.begins.ensures (omega arith)) (λ e. omega arith))

pub digits_from-requires : goal.digits_from-requires
digits_from-requires c = goes_on c.args.sheet.ended (word_at _ words.view _ (c.args.at + 5) c.begins.result c.if-begins.true c.begins.ensures (omega arith)) (λ e. omega arith)

pub digits_from-requires-then-begins : goal.digits_from-requires-then-begins
digits_from-requires-then-begins c = goes_on c.args.sheet.ended (number_at _ _ _ _ c.digits_from.result c.in_ok-i.was c.digits_from.ensures).standing (λ e. omega arith)

pub digits_from-requires-then-begins-2 : goal.digits_from-requires-then-begins-2
digits_from-requires-then-begins-2 c = goes_on c.args.sheet.ended (number_at _ _ _ _ c.digits_from-then-begins.result c.in_ok-s.was c.digits_from-then-begins.ensures).standing (λ e. omega arith)

pub returns-then-s-state : goal.returns-then-s-state
returns-then-s-state c =
    quick_view _ _
    (line_of (omega arith, (omega arith, (omega arith, (omega arith, tt)))) (word_at _ words.view _ _ c.begins.result c.if-begins.true c.begins.ensures (omega arith))
    (onward (number_at _ _ _ _ c.digits_from.result c.in_ok-i.was c.digits_from.ensures) (onward (number_at _ _ _ _ c.digits_from-then-begins.result c.in_ok-s.was c.digits_from-then-begins.ensures) (ends (number_at _ _ _ _ c.digits_from-then-begins-2.result c.in_ok-class.was c.digits_from-then-begins-2.ensures)))))
    c.if-i-id.true c.if-s-state.true
