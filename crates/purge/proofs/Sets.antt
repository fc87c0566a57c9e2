-- A loop that packs a set from the highest number down.
-- Assumes nothing.
use mathlib.Core.Path.{◌≡◌, sym, subst}
use mathlib.Core.Bool.{Bool, cond}
use Prim.Native.Nat.{ℕ, suc, ◌+◌, ◌-◌, ◌*◌, ◌^◌, ◌<◌, ◌≤◌}
use native.Mathlib.Nat.{pow-suc}
use native.Mathlib.Omega.{arith}
use lib.Pow.{pow_mono}
use Rattle.laws.specs.Sets.{pack}
use Rattle.laws.proofs.Sets.{pack_small}
use Rattle.model.specs.Limits.{BOXES}

pub pack_fits : (test : ℕ → Bool) (n v : ℕ) {set : ℕ} → n < BOXES → set ≡ pack test v n → set * 2 + 1 < 2 ^ 32
pack_fits test n v {set} l e =
    let h : set < 2 ^ n = subst (λ x. x < 2 ^ n) (sym e) (pack_small test n v) in
    let k : 2 ^ suc n ≤ 2 ^ 32 = pow_mono {j = 32} (omega arith) in
    omega (arith, pow-suc 2 n)

pub pack_more : (test : ℕ → Bool) (v : ℕ) {set b : ℕ} → 0 < v → v ≤ BOXES → set ≡ pack test v (BOXES - v) → b ≡ cond (test (v - 1)) 1 0 →
    set * 2 + b ≡ pack test (v - 1) (BOXES - (v - 1))
unfolding pack
pack_more test v {set} {b} l m e h =
    let n : BOXES - (v - 1) ≡ suc (BOXES - v) = omega arith in
    let w : v - 1 + 1 ≡ v = omega arith in
    rw (n, w, ← e, ← h)
