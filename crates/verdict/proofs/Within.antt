-- A verdict fits the buffer that it was written to.
-- Assumes nothing.
use mathlib.Core.Path.{◌≡◌, sym, subst}
use mathlib.Core.Bool.{Bool, true, false}
use mathlib.Core.List.{List, ◌++◌}
use Prim.Native.Nat.{ℕ, ◌-◌, ◌≤◌}
use native.Mathlib.Omega.{arith}
use lib.Dec.{eqb}
use lib.ListN.{length, replicate, length-append}
use Rattle.laws.specs.Choice.{choose}
use Rattle.model.specs.Limits.{VERDICT_BYTES}
use Rattle.zarpalume.specs.Verdict.{Call, verdict, call, call_of}

abbrev Fits : Call → Type 0
Fits c = c.count ≤ length c.bytes

fits : (good : Bool) (written buffer zeros : List ℕ) → Fits (choose good (call (length written) (written ++ zeros)) (call 0 buffer))
unfolding choose
fits true written buffer zeros = omega (arith, length-append written zeros)
fits false written buffer zeros = omega arith

pub written : (sheet buffer : List ℕ) {bytes : List ℕ} {count : ℕ} → call count bytes ≡ call_of sheet buffer → count ≤ length bytes
unfolding call_of
written sheet buffer e = subst Fits (sym e) (fits (eqb (length buffer) VERDICT_BYTES) (verdict sheet) buffer (replicate (VERDICT_BYTES - length (verdict sheet)) 0))
