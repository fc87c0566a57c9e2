-- `model::rules::selves_fit` meets its contract.
use Rattle.std.proofs.Common.{refl, rules, tests}
use Rattle.laws.proofs.Ranges.{all_below}
use Rattle.model.specs.Denoted.{policy_of}
use Rattle.model.specs.Refused.{selves_fit}
use Rattle.model.proofs.rules.selves_fit.Goals as goal

pub returns : goal.returns
unfolding selves_fit
returns c = all_below _ (λ u. policy_of c.args.model.now u u) c.all.ensures.ran refl (λ x b q k. search (rules, tests))
