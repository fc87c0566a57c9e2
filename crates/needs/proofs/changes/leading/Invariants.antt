-- `needs::changes::leading` meets its contract. The loop's invariant: what leads to a state passed is marked.
use Rattle.needs.specs.Again.{Covered}
use Rattle.needs.proofs.changes.leading.Given as goal

abbrev pub invariant-loop-x : goal.invariant-loop-x
invariant-loop-x l = Covered l.before l.moved.list l.marks l.x-index
