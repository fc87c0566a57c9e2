-- `sheet::quick::quick_go` meets its contract. Assumes nothing.
use Prim.Native.Nat.{◌+◌}
use native.Mathlib.Omega.{arith}
use Rattle.sheet.specs.Words as words
use Rattle.sheet.proofs.OnePass.{goes_on, number_at, word_at, ends, onward, line_of, quick_go}
use Rattle.sheet.proofs.quick.quick_go.Goals as goal

pub overflow_add-at : goal.overflow_add-at
overflow_add-at c = omega (arith, goes_on c.args.sheet.ended (word_at _ words.go _ (c.args.at + 3) c.begins.result c.if-begins.true c.begins.ensures (omega arith)) (λ e. omega arith))

pub digits_from-requires : goal.digits_from-requires
digits_from-requires c = goes_on c.args.sheet.ended (word_at _ words.go _ (c.args.at + 3) c.begins.result c.if-begins.true c.begins.ensures (omega arith)) (λ e. omega arith)

pub digits_from-requires-then-begins : goal.digits_from-requires-then-begins
digits_from-requires-then-begins c = goes_on c.args.sheet.ended (number_at _ _ _ _ c.digits_from.result c.in_ok-s.was c.digits_from.ensures).standing (λ e. omega arith)

pub digits_from-requires-then-begins-2 : goal.digits_from-requires-then-begins-2
digits_from-requires-then-begins-2 c = goes_on c.args.sheet.ended (number_at _ _ _ _ c.digits_from-then-begins.result c.in_ok-a.was c.digits_from-then-begins.ensures).standing (λ e. omega arith)

pub digits_from-requires-then-begins-3 : goal.digits_from-requires-then-begins-3
digits_from-requires-then-begins-3 c = goes_on c.args.sheet.ended (number_at _ _ _ _ c.digits_from-then-begins-2.result c.in_ok-next.was c.digits_from-then-begins-2.ensures).standing (λ e. omega arith)

pub returns-then-next-states : goal.returns-then-next-states
returns-then-next-states c =
    quick_go _ _ _
    (line_of (omega arith, (omega arith, tt)) (word_at _ words.go _ _ c.begins.result c.if-begins.true c.begins.ensures (omega arith))
    (onward (number_at _ _ _ _ c.digits_from.result c.in_ok-s.was c.digits_from.ensures) (onward (number_at _ _ _ _ c.digits_from-then-begins.result c.in_ok-a.was c.digits_from-then-begins.ensures) (onward (number_at _ _ _ _ c.digits_from-then-begins-2.result c.in_ok-next.was c.digits_from-then-begins-2.ensures) (ends (number_at _ _ _ _ c.digits_from-then-begins-3.result c.in_ok-output.was c.digits_from-then-begins-3.ensures))))))
    c.if-s-state.true c.if-a-action.true c.if-next-states.true
