-- `needs::flags_of` meets its contract. The loop's invariant: the flags passed are copied.
use Rattle.reach.specs.Set.{listed}
use Rattle.needs.proofs.Answering.{CopiedTo}
use Rattle.needs.proofs.flags_of.Given as goal

abbrev pub invariant-states : goal.invariant-states
invariant-states l = CopiedTo l.flags (listed l.reached) l.s
