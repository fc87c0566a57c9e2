-- `needs::arrows::mark_state` meets its contract. The loop's invariant: the boxes of the actions passed are marked.
use Rattle.needs.specs.Tables.{step_in, entry}
use Rattle.needs.proofs.Marking.{MovedTo}
use Rattle.needs.proofs.arrows.mark_state.Given as goal

abbrev pub invariant-actions : goal.invariant-actions
invariant-actions l = MovedTo l.owners (step_in l.walk.actions l.walk.next.now) (entry l.c) l.s l.initial.table l.table l.u l.a
