-- `needs::rounds::ClassesLikeness::alike` meets its contract. The loop's invariant: the class numbers are one after each action passed.
use Rattle.laws.specs.Range.{Held}
use Rattle.needs.specs.Tables.{step_in, entry}
use Rattle.needs.proofs.Agreeing.{SameAfter}
use Rattle.needs.proofs.rounds.ClassesLikeness.alike.Given as goal

abbrev pub invariant-actions : goal.invariant-actions
invariant-actions l = Held l.a (SameAfter (step_in l.self.walk.actions l.self.walk.next.now) (entry l.self.numbers.now) l.t l.s)
