-- `zarpalume::lines::put_depths` meets its contract. Assumes nothing.
use Prim.Native.Nat.{◌≤◌, ◌-◌, ◌*◌}
use Rattle.zarpalume.specs.Lines.{depth_lines}
use Rattle.zarpalume.proofs.Writing.{Growing}
use Rattle.zarpalume.proofs.lines.put_depths.Given as goal

abbrev pub invariant-boxes : goal.invariant-boxes
invariant-boxes l = Growing l.initial.tail l.tail l.at (depth_lines l.model.ids l.depths l.u) (28 * l.u)
