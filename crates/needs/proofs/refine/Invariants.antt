-- `needs::refine` meets its contract. The loop's invariant: each round so far split something, and the classes are those that it left.
use Rattle.std.specs.Prelude.{◌-◌}
use Rattle.needs.proofs.Refining.{Refining}
use Rattle.needs.proofs.refine.Given as goal

abbrev pub invariant-rounds : goal.invariant-rounds
invariant-rounds l = Refining l.tables.machine.now l.tables.next.now l.tables.outputs.now l.inside l.before l.u l.numbers l.marks l.rounds

abbrev pub decreases-rounds : goal.decreases-rounds
decreases-rounds l = l.states - l.rounds
