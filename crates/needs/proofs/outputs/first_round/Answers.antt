-- `needs::outputs::first_round` meets its contract.
use Rattle.std.proofs.Common.{refl, ℕ}
use Rattle.std.proofs.lemmas.List.{length-replicate}
use Rattle.needs.proofs.Agreeing.{led_one}
use Rattle.needs.proofs.Starting.{begun_none, begun_old}
use Rattle.model.specs.Limits.{STATES}
use Rattle.needs.specs.Starts.{SLOTS}
use Rattle.needs.proofs.outputs.first_round.Goals as goal

pub states-init : goal.states-init
states-init c = (led_one _ _ refl refl, begun_old _ _ _ _ (begun_none _ _ _ _ (length-replicate {A = ℕ} SLOTS STATES)) refl)
