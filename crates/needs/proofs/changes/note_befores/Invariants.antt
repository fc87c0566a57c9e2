-- `needs::changes::note_befores` meets its contract. The loops' invariant: the actions passed of the states passed are in the rows that they lead to.
use Rattle.needs.proofs.Looking.{BeforesTo}
use Rattle.needs.proofs.changes.note_befores.Given as goal

abbrev pub invariant-actions : goal.invariant-actions
invariant-actions l = BeforesTo l.walk.actions l.walk.next.now l.before l.s l.a

abbrev pub invariant-states : goal.invariant-states
invariant-states l = BeforesTo l.walk.actions l.walk.next.now l.before l.s 0
