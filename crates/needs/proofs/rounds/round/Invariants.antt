-- `needs::rounds::round` meets its contract. The loop's invariant: the class numbers of the states passed stand in d, those of unmarked ones at their old numbers in lead, their small numbers have starts, those outside the kept parts are listed, and `same` tells whether one that counts changed.
use Rattle.reach.specs.Set.{flag_at}
use Rattle.needs.specs.Tables.{step_in, entry}
use Rattle.needs.specs.Classes.{agrees, Led}
use Rattle.needs.specs.Again.{Leads, MovedTo}
use Rattle.needs.specs.Starts.{next_slot, Begun}
use Rattle.needs.proofs.Moving.{Same}
use Rattle.needs.proofs.rounds.round.Given as goal

abbrev pub invariant-states : goal.invariant-states
invariant-states l = Led (flag_at l.inside) (agrees (step_in l.classes.walk.actions l.classes.walk.next.now) l.classes.walk.actions (entry l.classes.numbers.now)) l.d l.s × Leads l.classes.walk.actions l.classes.walk.next.now l.classes.numbers.now l.lead l.inside l.marks l.s
    × Begun (flag_at l.inside) (agrees (step_in l.classes.walk.actions l.classes.walk.next.now) l.classes.walk.actions (entry l.classes.numbers.now)) (entry l.classes.numbers.now) (next_slot l.classes.walk.actions l.classes.walk.next.now l.classes.numbers.now) l.starts l.s
    × MovedTo l.s l.classes.numbers.now l.d l.lead l.moved.list l.moved.count
    × Same l.inside l.classes.numbers.now l.d l.s l.same
