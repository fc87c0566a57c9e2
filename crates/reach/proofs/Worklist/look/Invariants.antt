-- `reach::Worklist::look` meets its contract. The loop's invariant: the states that the actions passed lead to are entered.
-- Assumes nothing.
use mathlib.Core.Path.{◌≡◌}
use Rattle.reach.specs.Explored.{Looking}
use Rattle.reach.proofs.Worklist.look.Given as goal

abbrev pub invariant-actions : goal.invariant-actions
invariant-actions l = record {
  looking : Looking l.machine l.next l.self.flags l.self.work l.self.done l.self.entered l.s l.a;
  done : l.self.done ≡ l.done;
}
