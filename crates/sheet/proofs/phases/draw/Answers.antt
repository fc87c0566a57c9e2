-- `sheet::phases::draw` meets its contract. Assumes nothing.
use mathlib.Core.Path.{ap, ◌∙◌}
use Prim.Native.Nat.{◌^◌}
use native.Mathlib.Nat.{one-mul}
use native.Mathlib.Omega.{arith}
use lib.Bits.{bit_or}
use lib.ListN.{get_or, set}
use lib.Pow.{shl_exact}
use Rattle.laws.specs.Sets.{including}
use Rattle.sheet.proofs.phases.draw.Goals as goal

pub returns : goal.returns
unfolding including
returns c =
    let a = c.args in
    ap (λ bit. set a.arrows.now a.v (bit_or (get_or a.arrows.now a.v 0) bit)) (shl_exact 1 a.u 32 (omega arith) (omega arith) ∙ one-mul (2 ^ a.u))
