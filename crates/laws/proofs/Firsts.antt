-- The first number that passes: what is known before it, and how a loop that looks for it gives its answer.
-- Assumes nothing.
use mathlib.Core.Path.{◌≡◌}
use mathlib.Core.Bool.{Bool, false}
use Prim.Native.Nat.{ℕ, ◌<◌, ◌≤◌}
use native.Mathlib.Omega.{arith}
use Rattle.laws.specs.Range.{first}
use Rattle.laws.proofs.Tests.{false_of}
use Rattle.laws.proofs.Range.{first_le, first_least}

-- nothing passes before the first
pub first_before : (n : ℕ) (p : ℕ → Bool) (i : ℕ) → i < first n p → p i ≡ false
first_before n p i l = false_of (λ e. let h : first n p ≤ i = first_least n p i (omega (arith, first_le n p)) e in omega arith)
