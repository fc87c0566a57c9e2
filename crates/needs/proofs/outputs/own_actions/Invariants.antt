-- `needs::outputs::own_actions` meets its contract. The loop's invariant: the actions of u that are passed are listed.
use Rattle.needs.specs.Own.{Owned}
use Rattle.needs.proofs.outputs.own_actions.Given as goal

abbrev pub invariant-actions : goal.invariant-actions
invariant-actions l = Owned l.machine.owners l.a l.u l.list l.count
