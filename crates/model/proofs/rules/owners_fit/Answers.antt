-- `model::rules::owners_fit` meets its contract.
use Rattle.std.proofs.Common.{refl, rules, tests, ltb}
use Rattle.laws.proofs.Ranges.{all_below}
use Rattle.model.specs.Denoted.{owner_at}
use Rattle.model.specs.Refused.{owners_fit}
use Rattle.model.proofs.rules.owners_fit.Goals as goal

pub returns : goal.returns
unfolding owners_fit
returns c = all_below c.args.machine.now.sizes.actions (λ a. ltb (owner_at c.args.machine.now a) c.args.machine.now.sizes.boxes) c.all.ensures.ran refl (λ x b q k. search (rules, tests))
