-- `model::rules::ids_fit` meets its contract.
use Rattle.std.proofs.Common.{refl, rules, tests, not, eqb, leb, get_or}
use Rattle.laws.specs.Choice.{both}
use Rattle.laws.specs.Range.{every}
use Rattle.laws.proofs.Ranges.{all_below}
use Rattle.model.specs.Limits.{LARGEST_ID}
use Rattle.model.specs.Refused.{ids_fit}
use Rattle.model.proofs.rules.ids_fit.Goals as goal

pub returns : goal.returns
unfolding ids_fit both
returns c = all_below _ (λ u. both (leb (get_or c.args.model.now.ids u 0) LARGEST_ID) (every u λ v. not (eqb (get_or c.args.model.now.ids v 0) (get_or c.args.model.now.ids u 0)))) c.all.ensures.ran refl (λ x b q k. search (rules, tests))
