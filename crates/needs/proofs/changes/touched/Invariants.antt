-- `needs::changes::touched` meets its contract. The loop's invariant: what leads to a state passed that is outside the part kept is marked.
use Rattle.needs.proofs.Looking.{TouchedTo}
use Rattle.needs.proofs.changes.touched.Given as goal

abbrev pub invariant-states : goal.invariant-states
invariant-states l = TouchedTo l.before l.classes.numbers.now l.d l.keep l.marks l.x
