-- `model::rules::id_is_new` meets its contract.
use Rattle.std.proofs.Common.{refl, rules, tests, not, eqb, get_or}
use Rattle.laws.proofs.Ranges.{all_below}
use Rattle.model.proofs.rules.id_is_new.Goals as goal

pub returns : goal.returns
returns c = all_below c.args.position (λ v. not (eqb (get_or c.args.model.now.ids v 0) (get_or c.args.model.now.ids c.args.position 0))) c.all.ensures.ran refl (λ x b q k. search (rules, tests))
