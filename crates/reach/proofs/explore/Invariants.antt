-- `reach::explore` meets its contract. The loop's invariant: what is entered is reachable, and what is looked at leads to what is entered.
-- Assumes nothing.
use Prim.Native.Nat.{◌-◌}
use Rattle.model.specs.Limits.{STATES}
use Rattle.reach.specs.Explored.{Explored}
use Rattle.reach.proofs.explore.Given as goal

abbrev pub invariant-work : goal.invariant-work
invariant-work l = Explored l.machine l.next l.list.flags l.list.work l.list.done l.list.entered

abbrev pub decreases-work : goal.decreases-work
decreases-work l = STATES - l.list.done
