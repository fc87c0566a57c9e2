-- Limits that follow from others.
-- Assumes nothing.
use Prim.Native.Nat.{ℕ, ◌-◌, ◌*◌, ◌≤◌}
use native.Mathlib.Nat.{mul-le-mul}
use native.Mathlib.Omega.{arith}
use Rattle.model.specs.Limits.{BOXES, PAIRS}

-- the arrows from k of n boxes, each to every other box
pub pairs_most : {k n : ℕ} → k ≤ n → n ≤ BOXES → k * (n - 1) ≤ PAIRS
pairs_most {k} {n} l most = mul-le-mul {n₁ = k} {m₁ = n - 1} {n₂ = BOXES} {m₂ = BOXES - 1} (omega arith) (omega arith)
