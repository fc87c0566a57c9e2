-- `zarpalume::lines::put_needs` meets its contract. Assumes nothing.
use Prim.Native.Nat.{◌≤◌, ◌-◌, ◌*◌}
use Rattle.zarpalume.specs.Lines.{need_lines}
use Rattle.zarpalume.proofs.Writing.{Growing}
use Rattle.zarpalume.proofs.lines.put_needs.Given as goal

abbrev pub invariant-pairs : goal.invariant-pairs
invariant-pairs l = Growing l.initial.tail l.tail l.at (need_lines l.model.ids l.list l.k) (27 * l.k)
