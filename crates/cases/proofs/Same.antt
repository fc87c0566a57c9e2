-- Tests for equal lists and equal places, and the length of a table made full.
-- Assumes nothing.
use mathlib.Core.Path.{◌≡◌, refl}
use mathlib.Core.Bool.{Bool, true, false}
use mathlib.Core.List.{List, [], ◌∷◌}
use mathlib.Core.Option.{Option, none, some}
use Prim.Native.Nat.{ℕ, ◌≤◌}
use native.Mathlib.Omega.{arith}
use lib.Dec.{eqb, leb}
use lib.ListN.{length, length-append, length-replicate}
use borrow.Author.Tests.{eqb-true, leb-true}
use Rattle.laws.specs.Choice.{both}
use Rattle.laws.proofs.Tests.{both_true, not_both}
use Rattle.noninterference.specs.Place.{Place, output, respect, step, rank}
use Rattle.register.specs.Tables.{full}

unfoldable pub same_list : List ℕ → List ℕ → Bool
same_list [] [] = true
same_list [] (y ∷ ys) = false
same_list (x ∷ xs) [] = false
same_list (x ∷ xs) (y ∷ ys) = both (eqb x y) (same_list xs ys)

pub same_list_lem : (xs ys : List ℕ) → same_list xs ys ≡ true → xs ≡ ys
unfolding same_list
same_list_lem [] [] e = refl
same_list_lem [] (y ∷ ys) e = not_both e refl
same_list_lem (x ∷ xs) [] e = not_both e refl
same_list_lem (x ∷ xs) (y ∷ ys) e =
    let b = both_true _ _ e in
    let h : x ≡ y = eqb-true _ _ b.0 in
    let t : xs ≡ ys = same_list_lem xs ys b.1 in
    cc

-- a place by its rank, and no place by the empty list
abbrev pub ranked : Option Place → List ℕ
ranked none = []
ranked (some p) = rank p

pub same_rank : (p q : Option Place) → ranked p ≡ ranked q → p ≡ q
same_rank none none e = refl
same_rank none (some (output o s t)) e = cc
same_rank none (some (respect u a s)) e = cc
same_rank none (some (step u a s t)) e = cc
same_rank (some (output o s t)) none e = cc
same_rank (some (respect u a s)) none e = cc
same_rank (some (step u a s t)) none e = cc
same_rank (some (output o s t)) (some (output o' s' t')) e = cc
same_rank (some (respect u a s)) (some (respect u' a' s')) e = cc
same_rank (some (step u a s t)) (some (step u' a' s' t')) e = cc
same_rank (some (output o s t)) (some (respect u' a' s')) e = cc
same_rank (some (output o s t)) (some (step u' a' s' t')) e = cc
same_rank (some (respect u a s)) (some (output o' s' t')) e = cc
same_rank (some (respect u a s)) (some (step u' a' s' t')) e = cc
same_rank (some (step u a s t)) (some (output o' s' t')) e = cc
same_rank (some (step u a s t)) (some (respect u' a' s')) e = cc

pub full_length : (n : ℕ) (xs : List ℕ) → leb (length xs) n ≡ true → length (full n xs) ≡ n
full_length n xs e = let h : length xs ≤ n = leb-true _ _ e in rw (length-append, length-replicate) (omega arith)
