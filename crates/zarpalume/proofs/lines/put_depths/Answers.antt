-- `zarpalume::lines::put_depths` meets its contract. Assumes nothing.
use mathlib.Core.Path.{◌≡◌}
use native.Mathlib.Omega.{arith}
use Rattle.zarpalume.specs.Lines.{depth_lines}
use Rattle.zarpalume.proofs.Writing.{growing_none, depth_more}
use Rattle.zarpalume.proofs.lines.put_depths.Goals as goal

pub boxes-init : goal.boxes-init
unfolding depth_lines
boxes-init c = growing_none _

pub boxes-preserved : goal.boxes-preserved
boxes-preserved c = depth_more _ _ _ _ c.boxes.invariant (omega arith) c.put_pair-at.ensures.0 c.put_pair-at.ensures.1 c.id-id.ensures
