-- `model::rules::arrows_fit` meets its contract.
use Rattle.laws.proofs.Loops.{each}
use Rattle.model.specs.Refused.{arrows_fit}
use Rattle.model.proofs.rules.arrows_fit.Goals as goal

pub returns-then-not-targets_fit : goal.returns-then-not-targets_fit
unfolding arrows_fit
returns-then-not-targets_fit c = search each
