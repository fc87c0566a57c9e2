-- The highest of some entries, and what it says of tables that stand row after row.
-- Assumes nothing.
use mathlib.Core.Path.{◌≡◌, sym, ap, ◌∙◌}
use mathlib.Core.Bool.{true, false}
use mathlib.Core.List.{List}
use Prim.Native.Nat.{ℕ, zero, suc, ◌+◌, ◌*◌, ◌<◌, ◌≤◌, ◌-◌}
use native.Mathlib.Nat.{suc-mul, zero-mul}
use native.Mathlib.Omega.{arith}
use borrow.Author.Tests.{lt-ltb, le-ltb}
use lib.Dec.{ltb}
use lib.ListN.{get_or}
use Rattle.laws.specs.Range.{every}
use Rattle.laws.proofs.Range.{every_of, every_not, by_order}
use Rattle.laws.proofs.Cells.{cell}
use Rattle.model.specs.Highest.{Highest}

-- the row and the column of an entry
record Place (n m i : ℕ) : Type 0 where
  s : ℕ
  a : ℕ
  s_in : s < n
  a_in : a < m
  is : i ≡ s * m + a

up : {n m i : ℕ} → Place n m i → Place (suc n) m i
up {n} w = let q : w.s < n = w.s_in in record { s = w.s; a = w.a; s_in = omega arith; a_in = w.a_in; is = w.is }

last : (n m i : ℕ) → n * m ≤ i → i < suc n * m → Place (suc n) m i
last n m i p l = record { s = n; a = i - n * m; s_in = omega arith; a_in = omega (arith, suc-mul n m); is = omega arith }

place : (n m i : ℕ) → i < n * m → Place n m i
place zero m i l = absurd (omega (arith, zero-mul m))
place (suc n) m i l = by_order i (n * m) (λ p. up (place n m i p)) (λ p. last n m i (omega arith) l) (λ e. last n m i (omega arith) l)

-- all are below so many if the highest is
pub rows_yes : {n top : ℕ} (m : ℕ) {table : List ℕ} → Highest (n * m) table top → top < n →
    every n (λ s. every m (λ a. ltb (get_or table (s * m + a) 0) n)) ≡ true
rows_yes {n} {top} m {table} h l =
    every_of n (λ s. every m (λ a. ltb (get_or table (s * m + a) 0) n)) (λ s p. every_of m (λ a. ltb (get_or table (s * m + a) 0) n) (λ a q.
    lt-ltb (get_or table (s * m + a) 0) n (let k = h.upto (s * m + a) (cell n m {n = n} {w = m} p (omega arith) q (omega arith)) in omega arith)))

pub rows_no : {n top : ℕ} (m : ℕ) {table : List ℕ} → Highest (n * m) table top → 0 < n → n ≤ top →
    every n (λ s. every m (λ a. ltb (get_or table (s * m + a) 0) n)) ≡ false
rows_no {n} {top} m {table} h z l =
    let f = h.found (omega arith) in
    let w = place n m f.0 f.1 in
    let e : get_or table (w.s * m + w.a) 0 ≡ top = ap (λ x. get_or table x 0) (sym w.is) ∙ f.2 in
    every_not n (λ s. every m (λ a. ltb (get_or table (s * m + a) 0) n)) w.s w.s_in
    (every_not m (λ a. ltb (get_or table (w.s * m + a) 0) n) w.a w.a_in (le-ltb (get_or table (w.s * m + w.a) 0) n (omega arith)))

-- x is the highest, and the test is made of it
pub rows_test : {n x top : ℕ} (m : ℕ) {table : List ℕ} → Highest (n * m) table top → 0 < n → x ≡ top →
    ltb x n ≡ every n (λ s. every m (λ a. ltb (get_or table (s * m + a) 0) n))
rows_test {n} {x} {top} m h z e =
    by_order x n
    (λ l. lt-ltb x n l ∙ sym (rows_yes m h (omega arith)))
    (λ l. le-ltb x n (omega arith) ∙ sym (rows_no m h z (omega arith)))
    (λ l. le-ltb x n (omega arith) ∙ sym (rows_no m h z (omega arith)))
