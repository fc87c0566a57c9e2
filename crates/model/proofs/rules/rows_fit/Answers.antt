-- `model::rules::rows_fit` meets its contract.
use Rattle.std.proofs.Common.{refl, rules, tests, ◌+◌, ◌*◌, ltb, get_or}
use Rattle.laws.specs.Range.{every}
use Rattle.laws.proofs.Ranges.{all_below}
use Rattle.model.specs.Refused.{next_fits}
use Rattle.model.proofs.rules.rows_fit.Goals as goal

pub returns : goal.returns
unfolding next_fits
returns c = all_below _ (λ s. every c.args.machine.now.sizes.actions (λ a. ltb (get_or c.args.next.now (s * c.args.machine.now.sizes.actions + a) 0) c.args.machine.now.sizes.states)) c.all.ensures.ran refl (λ x b q k. search (rules, tests))
