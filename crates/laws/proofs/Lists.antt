-- Tests of a list's members.
-- Assumes nothing.
use mathlib.Core.Path.{◌≡◌, refl, sym, subst}
use mathlib.Core.Logic.{◌⊎◌, inl, inr, ⊎_elim}
use mathlib.Core.Bool.{Bool, true, false}
use mathlib.Core.List.{List, [], ◌∷◌}
use Prim.Native.Nat.{ℕ}
use lib.Dec.{eqb}
use borrow.Author.Tests.{eqb-true, eq-eqb}
use Rattle.laws.specs.Choice.{either}
use Rattle.laws.specs.Lists.{any, elem}
use Rattle.laws.proofs.Tests.{by_test, not_both, either_left, either_right, either_true, either_false}

either_no : {a b : Bool} → a ≡ false → either a b ≡ true → b ≡ true
unfolding either
either_no q e = rw q at e

-- the first member is a member, and so is each later one
pub elem_here : (x : ℕ) (xs : List ℕ) → elem x (x ∷ xs) ≡ true
unfolding elem any
elem_here x xs = either_left _ (eq-eqb x x refl)

pub elem_there : (x y : ℕ) (xs : List ℕ) → elem x xs ≡ true → elem x (y ∷ xs) ≡ true
unfolding elem any
elem_there x y xs e = either_right _ e

pub elem_cases : (x y : ℕ) (ys : List ℕ) → elem x (y ∷ ys) ≡ true → (x ≡ y) ⊎ (elem x ys ≡ true)
unfolding elem any
elem_cases x y ys e = ⊎_elim (λ q. inl (eqb-true x y q)) (λ q. inr q) (either_true _ _ e)

pub elem_one : (x y : ℕ) → elem x (y ∷ []) ≡ true → x ≡ y
unfolding elem any
elem_one x y e = ⊎_elim (λ q. eqb-true x y q) (λ q. not_both q refl) (either_true _ _ e)

-- no member passes
pub any_false : (p : ℕ → Bool) (xs : List ℕ) (x : ℕ) → any p xs ≡ false → elem x xs ≡ true → p x ≡ false
unfolding any elem
any_false p [] x h e = not_both e refl
any_false p (y ∷ ys) x h e =
    by_test (eqb x y)
    (λ q. subst (λ z. p z ≡ false) (sym (eqb-true x y q)) (either_false _ _ h).0)
    (λ q. any_false p ys x (either_false _ _ h).1 (either_no q e))

-- a member passes
pub any_true : (p : ℕ → Bool) (xs : List ℕ) (x : ℕ) → elem x xs ≡ true → p x ≡ true → any p xs ≡ true
unfolding any elem
any_true p [] x e h = not_both e refl
any_true p (y ∷ ys) x e h =
    by_test (eqb x y)
    (λ q. either_left _ (subst (λ z. p z ≡ true) (eqb-true x y q) h))
    (λ q. either_right _ (any_true p ys x (either_no q e) h))

-- which one
pub any_at : (p : ℕ → Bool) (xs : List ℕ) → any p xs ≡ true → (x : ℕ) × (elem x xs ≡ true) × (p x ≡ true)
unfolding any
any_at p [] e = not_both e refl
any_at p (y ∷ ys) e =
    ⊎_elim (λ h. (y, elem_here y ys, h)) (λ h. let f = any_at p ys h in (f.0, elem_there f.0 y ys f.1, f.2)) (either_true _ _ e)
