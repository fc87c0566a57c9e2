-- `needs::outputs::observes` meets its contract.
use Rattle.std.proofs.Common.{refl, eqb, rules, tests}
use Rattle.laws.proofs.Ranges.{any_below}
use Rattle.model.specs.Denoted.{owner_at}
use Rattle.needs.proofs.outputs.observes.Goals as goal

pub returns : goal.returns
returns c = any_below c.args.machine.now.sizes.actions (λ a. eqb (owner_at c.args.machine.now a) c.args.u) c.any.ensures.ran refl (λ x b q k. search (rules, tests))
