-- Entries of tables that stand row after row.
-- Assumes nothing.
use mathlib.Core.Path.{◌≡◌, sym}
use mathlib.Core.List.{List}
use Prim.Native.Nat.{ℕ, suc, ◌+◌, ◌*◌, ◌<◌, ◌≤◌}
use native.Mathlib.Nat.{mul-le-mul, suc-mul, le_trans}
use native.Mathlib.Omega.{arith}
use lib.ListN.{length, get_or, get_or-eq_default}

-- beyond the end stands the default
pub beyond : {A : Type 0} (l : List A) (i : ℕ) (d : A) → length l ≤ i → d ≡ get_or l i d
beyond l i d h = sym (get_or-eq_default l d {n = i} h)

-- row r of n, at most N, and column c of w, at most W
pub cell : (N W : ℕ) {r n c w : ℕ} → r < n → n ≤ N → c < w → w ≤ W → r * w + c < N * W
cell N W {r} {n} {c} {w} p q l m =
    let h : suc r * w ≤ N * W = mul-le-mul (le_trans p q) m in
    omega (arith, suc-mul r w)

pub row : (N W : ℕ) {r n w : ℕ} → r < n → n ≤ N → w ≤ W → r * w ≤ N * W
row N W {r} {n} {w} p q m =
    let h : suc r * w ≤ N * W = mul-le-mul (le_trans p q) m in
    omega (arith, suc-mul r w)
