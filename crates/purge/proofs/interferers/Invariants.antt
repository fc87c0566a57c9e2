-- `purge::interferers` meets its contract: the set holds the boxes from v on. Assumes nothing.
use mathlib.Core.Path.{◌≡◌}
use Prim.Native.Nat.{◌-◌}
use Rattle.model.specs.Arrows.{leads}
use Rattle.model.specs.Limits.{BOXES}
use Rattle.laws.specs.Sets.{pack}
use Rattle.purge.proofs.interferers.Given as goal

abbrev pub invariant-boxes : goal.invariant-boxes
invariant-boxes l = l.set ≡ pack (λ w. leads l.model.arrows w l.u) l.v (BOXES - l.v)
