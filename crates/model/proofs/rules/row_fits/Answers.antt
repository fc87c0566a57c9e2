-- `model::rules::row_fits` meets its contract.
use Rattle.std.proofs.Common.{refl, rules, tests, ◌+◌, ltb, get_or}
use Rattle.laws.proofs.Ranges.{all_below}
use Rattle.model.proofs.rules.row_fits.Goals as goal

pub returns : goal.returns
returns c = all_below c.args.actions (λ a. ltb (get_or c.args.next.now (c.args.base + a) 0) c.args.states) c.all.ensures.ran refl (λ x b q k. search (rules, tests))
