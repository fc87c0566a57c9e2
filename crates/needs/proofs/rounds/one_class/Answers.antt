-- `needs::rounds::one_class` meets its contract.
use Rattle.std.proofs.Common.{refl, eqb, rules, tests}
use Rattle.laws.specs.Choice.{brings}
use Rattle.laws.proofs.Ranges.{all_below}
use Rattle.reach.specs.Set.{flag_at}
use Rattle.needs.specs.Tables.{entry}
use Rattle.needs.proofs.rounds.one_class.Goals as goal

pub returns : goal.returns
unfolding brings
returns c = all_below c.args.states (λ s. brings (flag_at c.args.inside.now s) (eqb (entry c.args.c.now s) 0)) c.all.ensures.ran refl (λ x b q k. search (rules, tests))
