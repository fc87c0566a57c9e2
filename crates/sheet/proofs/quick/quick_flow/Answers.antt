-- `sheet::quick::quick_flow` meets its contract. Assumes nothing.
use Prim.Native.Nat.{◌+◌}
use native.Mathlib.Omega.{arith}
use Rattle.sheet.specs.Words as words
use Rattle.sheet.proofs.OnePass.{goes_on, word_at, quick_one, quick_two}
use Rattle.sheet.proofs.quick.quick_flow.Goals as goal

pub overflow_add-at : goal.overflow_add-at
overflow_add-at c = omega (arith, goes_on c.args.sheet.ended (word_at _ words.flow _ (c.args.at + 5) c.begins.result c.if-begins.true c.begins.ensures (omega arith)) (λ e. omega arith))

pub quick_arrow-requires : goal.quick_arrow-requires
quick_arrow-requires c = goes_on c.args.sheet.ended (word_at _ words.flow _ (c.args.at + 5) c.begins.result c.if-begins.true c.begins.ensures (omega arith)) (λ e. omega arith)

pub returns-in_ok-v : goal.returns-in_ok-v
returns-in_ok-v c = quick_one _ _ _ _ c.quick_arrow.result (word_at _ words.flow _ (c.args.at + 5) c.begins.result c.if-begins.true c.begins.ensures (omega arith)) c.in_ok-v.was c.quick_arrow.ensures

pub overflow_add-at-then-begins-2 : goal.overflow_add-at-then-begins-2
overflow_add-at-then-begins-2 c = omega (arith, goes_on c.args.sheet.ended (word_at _ words.both _ (c.args.at + 5) c.begins-else-begins.result c.if-begins-2.true c.begins-else-begins.ensures (omega arith)) (λ e. omega arith))

pub quick_arrow-requires-then-begins-2 : goal.quick_arrow-requires-then-begins-2
quick_arrow-requires-then-begins-2 c = goes_on c.args.sheet.ended (word_at _ words.both _ (c.args.at + 5) c.begins-else-begins.result c.if-begins-2.true c.begins-else-begins.ensures (omega arith)) (λ e. omega arith)

pub returns-in_ok-v-2 : goal.returns-in_ok-v-2
returns-in_ok-v-2 c = quick_two _ _ _ _ c.quick_arrow-then-begins-2.result (word_at _ words.both _ (c.args.at + 5) c.begins-else-begins.result c.if-begins-2.true c.begins-else-begins.ensures (omega arith)) c.in_ok-v-2.was c.quick_arrow-then-begins-2.ensures
