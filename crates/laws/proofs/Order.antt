-- Lists of numbers of which neither is earlier are the same.
-- Assumes nothing.
use mathlib.Core.Path.{◌≡◌, refl, sym}
use mathlib.Core.Logic.{inl, inr}
use mathlib.Core.List.{List, [], ◌∷◌}
use Prim.Native.Nat.{ℕ, ◌<◌}
use native.Mathlib.Omega.{arith}
use lib.Dec.{ltb}
use lib.ListN.{length}
use borrow.Author.Tests.{ltb-true, ltb-false}
use Rattle.laws.specs.Order.{Earlier}
use Rattle.laws.proofs.Tests.{by_test}

same_number : (x y : ℕ) → ¬ (x < y) → ¬ (y < x) → x ≡ y
same_number x y a b =
    by_test (ltb x y) (λ e. absurd (a (ltb-true x y e)))
    (λ e. by_test (ltb y x) (λ f. absurd (b (ltb-true y x f))) (λ f. let g = ltb-false x y e in let h = ltb-false y x f in omega arith))

pub same_place : (xs ys : List ℕ) → length xs ≡ length ys → ¬ Earlier xs ys → ¬ Earlier ys xs → xs ≡ ys
same_place [] [] l a b = refl
same_place [] (y ∷ ys) l a b = absurd (omega (arith, l))
same_place (x ∷ xs) [] l a b = absurd (omega (arith, l))
same_place (x ∷ xs) (y ∷ ys) l a b =
    let e = same_number x y (λ h. a (inl h)) (λ h. b (inl h)) in
    let f : length xs ≡ length ys = omega (arith, l) in
    let g = same_place xs ys f (λ h. a (inr (e, h))) (λ h. b (inr (sym e, h))) in
    rw (e, g) refl
