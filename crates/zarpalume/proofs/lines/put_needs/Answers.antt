-- `zarpalume::lines::put_needs` meets its contract. Assumes nothing.
use mathlib.Core.Path.{◌≡◌}
use native.Mathlib.Omega.{arith}
use Rattle.zarpalume.specs.Lines.{need_lines}
use Rattle.zarpalume.proofs.Writing.{growing_none, need_more}
use Rattle.zarpalume.proofs.lines.put_needs.Goals as goal

pub pairs-init : goal.pairs-init
unfolding need_lines
pairs-init c = growing_none _

pub pairs-preserved : goal.pairs-preserved
pairs-preserved c =
    need_more _ _ _ _ _ c.pairs.invariant (omega arith) c.put_pair-at.ensures.0 c.put_pair-at.ensures.1
    c.at.ensures c.id-source.ensures c.at-in-pairs.ensures c.id-target.ensures
