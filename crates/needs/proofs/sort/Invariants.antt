-- `needs::sort` meets its contract. The loop's invariant: the boxes passed are sorted out.
use Rattle.needs.proofs.Sorting.{Sorting}
use Rattle.needs.proofs.sort.Given as goal

abbrev pub invariant-boxes : goal.invariant-boxes
invariant-boxes l = Sorting l.tables.machine.now l.tables.next.now l.tables.outputs.now l.inside l.table l.depths l.u
