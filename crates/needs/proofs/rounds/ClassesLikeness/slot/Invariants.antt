-- `needs::rounds::ClassesLikeness::slot` meets its contract. The loop's invariant: it is the small number of the actions passed.
use Rattle.std.specs.Prelude.{◌≡◌, ℕ}
use Rattle.needs.specs.Tables.{step_in, entry}
use Rattle.needs.specs.Starts.{slot_of}
use Rattle.needs.proofs.rounds.ClassesLikeness.slot.Given as goal

abbrev pub invariant-actions : goal.invariant-actions
invariant-actions l = l.slot ≡ slot_of l.a (λ (a : ℕ). entry l.self.numbers.now (step_in l.self.walk.actions l.self.walk.next.now l.s a))
