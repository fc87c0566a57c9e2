-- `purge::gather` meets its contract. Assumes nothing.
use Prim.Native.Nat.{◌-◌}
use Rattle.purge.proofs.Gathered.{Gathered}
use Rattle.purge.proofs.gather.Given as goal

abbrev pub invariant-actions : goal.invariant-actions
invariant-actions l = Gathered l.initial.kept l.i l.count l.kept

abbrev pub decreases-actions : goal.decreases-actions
decreases-actions l = l.i-end - l.i
