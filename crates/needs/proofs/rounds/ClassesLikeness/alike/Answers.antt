-- `needs::rounds::ClassesLikeness::alike` meets its contract.
use Rattle.needs.specs.Tables.{step_in, entry}
use Rattle.needs.proofs.Agreeing.{agrees_parts}
use Rattle.needs.proofs.rounds.ClassesLikeness.alike.Goals as goal

pub returns-then-self-x : goal.returns-then-self-x
returns-then-self-x c = let w = c.args.self.now in agrees_parts (step_in w.walk.actions w.walk.next.now) _ (entry w.numbers.now) _ _ c.actions-test.true c.step-x.ensures.value c.step-y.ensures.value c.if-self-x.true
