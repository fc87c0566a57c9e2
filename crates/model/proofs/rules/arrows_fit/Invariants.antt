-- `model::rules::arrows_fit` meets its contract.
use Rattle.std.specs.Prelude.{get_or}
use Rattle.laws.specs.Range.{Held}
use Rattle.model.specs.Refused.{row_fits}
use Rattle.model.proofs.rules.arrows_fit.Given as goal

abbrev pub invariant-sources : goal.invariant-sources
invariant-sources l = Held l.v (λ v. row_fits l.boxes v (get_or l.model.arrows v 0))
