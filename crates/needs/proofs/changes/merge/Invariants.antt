-- `needs::changes::merge` meets its contract. The loop's invariant: the states passed are marked where row x has them.
use Rattle.needs.proofs.Looking.{MergedTo}
use Rattle.needs.proofs.changes.merge.Given as goal

abbrev pub invariant-states : goal.invariant-states
invariant-states l = MergedTo l.before l.initial.marks l.marks l.x l.s
