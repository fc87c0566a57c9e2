-- `needs::arrows::mark` meets its contract. The loop's invariant: the boxes whose actions move a state passed are marked.
use Rattle.reach.specs.Set.{flag_at}
use Rattle.needs.specs.Tables.{step_in, entry}
use Rattle.needs.proofs.Marking.{SourcesTo}
use Rattle.needs.proofs.arrows.mark.Given as goal

abbrev pub invariant-states : goal.invariant-states
invariant-states l = SourcesTo l.owners (step_in l.walk.actions l.walk.next.now) l.walk.actions (entry l.c) (flag_at l.inside) l.initial.table l.table l.u l.s
