-- How a function that tests every number of a range gives its answer.
-- Assumes nothing.
use mathlib.Core.Path.{◌≡◌, sym}
use mathlib.Core.Bool.{Bool, true, false, not}
use Prim.Native.Nat.{ℕ, ◌<◌, ◌≤◌}
use native.Mathlib.Omega.{arith}
use lib.Dec.{eqb, ltb, leb}
use borrow.Author.Tests.{not-true, lt-ltb, le-ltb, le-leb, lt-leb, eq-eqb, ne_eqb}
use Rattle.laws.specs.Choice.{both}
use Rattle.laws.specs.Range.{every, some, Held}
use Rattle.laws.proofs.Tests.{told, both_of, both_no}
use Rattle.laws.proofs.Range.{every_held, every_not, some_of, some_none, sweep_every}

-- the loop has come to the end
pub every_yes : (n : ℕ) {i : ℕ} (p : ℕ → Bool) → n ≤ i → Held i p → true ≡ every n p
every_yes n p l h = sym (every_held n p l h)

-- the loop has met a number that fails
pub every_no : (n : ℕ) (p : ℕ → Bool) (i : ℕ) → i < n → p i ≡ false → false ≡ every n p
every_no n p i l e = sym (every_not n p i l e)

-- a loop that looks for a number has come to one, or to the end
pub some_yes : (n : ℕ) (p : ℕ → Bool) (i : ℕ) → i < n → p i ≡ true → true ≡ some n p
some_yes n p i l e = sym (some_of n p i l e)

pub some_no : (n : ℕ) {i : ℕ} (p : ℕ → Bool) → n ≤ i → Held i (λ k. not (p k)) → false ≡ some n p
some_no n p l h = sym (some_none n p (λ k q. not-true _ (h.each k (omega arith))))

-- what the code compared, r, was read at x
pub read_lt : {r : ℕ} (x n : ℕ) → r ≡ x → r < n → ltb x n ≡ true
read_lt x n e l = lt-ltb x n (omega arith)

pub read_ge : {r : ℕ} (x n : ℕ) → r ≡ x → n ≤ r → ltb x n ≡ false
read_ge x n e l = le-ltb x n (omega arith)

pub read_le : {r : ℕ} (x n : ℕ) → r ≡ x → r ≤ n → leb x n ≡ true
read_le x n e l = le-leb x n (omega arith)

pub read_gt : {r : ℕ} (x n : ℕ) → r ≡ x → n < r → leb x n ≡ false
read_gt x n e l = lt-leb x n (omega arith)

pub read_other : {r q : ℕ} (x y : ℕ) → r ≡ x → q ≡ y → (r ≡ q → ⊥) → not (eqb x y) ≡ true
read_other x y e f h = rw (ne_eqb x y (λ g. h (omega arith)))

pub read_same : {r q : ℕ} (x y : ℕ) → r ≡ x → q ≡ y → r ≡ q → not (eqb x y) ≡ false
read_same x y e f h = rw (eq-eqb x y (omega arith))

pub both_not : {a : Bool} (b : Bool) → a ≡ false → both a b ≡ false
unfolding both
both_not b e = rw e

-- what `search` is handed at the goals of such a function
pub ruleset each =
    (sweep_every, every_yes, every_no, told, read_lt, read_ge, read_le, read_gt, read_other, read_same, both_of, both_no, both_not)
