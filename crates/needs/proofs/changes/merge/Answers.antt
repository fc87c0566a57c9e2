-- `needs::changes::merge` meets its contract.
use Rattle.std.proofs.Common.{◌≡◌, refl, Bool, true, false, ◌||◌}
use Rattle.laws.specs.Choice.{either}
use Rattle.needs.proofs.Looking.{merged_more}
use Rattle.needs.proofs.changes.merge.Goals as goal

or_either : (a b : Bool) → (a || b) ≡ either a b
unfolding either
or_either true b = refl
or_either false b = refl

pub states-preserved : goal.states-preserved
states-preserved c = merged_more c.states.invariant c.states-test.true (or_either _ _)
