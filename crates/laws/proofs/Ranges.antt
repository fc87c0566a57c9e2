-- What `all` and `any` over a range or a slice answer, in the words of `laws/specs/Range`.
-- Assumes nothing.
use Rattle.std.proofs.Common.{◌≡◌, refl, sym, ap, ◌∙◌, ℕ, zero, suc, ◌+◌, ◌≤◌, List, [], ◌∷◌, ◌++◌, Bool, true, false, ◌||◌, ◌&&◌, length, get_or, take, arith}
use native.Mathlib.Numerals.{add-one}
use lib.Seq.{take-length}
use denote.Param.Members.{Mut}
use Rattle.std.specs.declared.option.Option.{Option}
use Rattle.std.specs.declared.ops.Range.{Range}
use Rattle.std.specs.Option.{MatchOption}
use Rattle.std.specs.Iterator.{YieldsThen}
use Rattle.std.specs.List.{FoldsTo}
use Rattle.std.specs.Fn.{Called}
use Rattle.std.specs.List.{list_all, list_any, range_with_len}
use Rattle.std.proofs.iter.Yields.{nat_range_steps}
use Rattle.std.proofs.lemmas.Iterator.{YieldsList-from_range}
use Rattle.std.proofs.lemmas.Iterator.Search.{all_from_yields_List, any_from_yields_List}
use Rattle.std.proofs.lemmas.List.Folds.{list_all-append, list_any-append, list_all_more}
use Rattle.laws.specs.Choice.{both, either}
use Rattle.laws.specs.Range.{every, some}

joined : (a b : Bool) → (a && b) ≡ both a b
unfolding both
joined true b = refl
joined false b = refl

-- ---- tests of the numbers below n
range_more : (a n j : ℕ) → a + n ≡ j → range_with_len a (suc n) ≡ range_with_len a n ++ j ∷ []
range_more a zero j e = let s : a ≡ j = omega arith in ap (λ (m : ℕ). m ∷ []) s
range_more a (suc n) j e = ap (λ (xs : List ℕ). a ∷ xs) (range_more (a + 1) n j (omega arith))

pub any_range : (n : ℕ) (p : ℕ → Bool) → list_any p (range_with_len 0 n) ≡ some n p
unfolding some either
any_range zero p = refl
any_range (suc n) p = ap (list_any p) (range_more 0 n n (omega arith)) ∙ list_any-append p (range_with_len 0 n) (n ∷ []) ∙ rw (any_range n p) (or_is (some n p) (p n))
  where
    or_is : (a b : Bool) → (a || (b || false)) ≡ either a b
    or_is true b = refl
    or_is false true = refl
    or_is false false = refl

pub all_range : (n : ℕ) (p : ℕ → Bool) → list_all p (range_with_len 0 n) ≡ every n p
unfolding every both
all_range zero p = refl
all_range (suc n) p = ap (list_all p) (range_more 0 n n (omega arith)) ∙ list_all-append p (range_with_len 0 n) (n ∷ []) ∙ rw (all_range n p) (and_is (every n p) (p n))
  where
    and_is : (a b : Bool) → (a && (b && true)) ≡ both a b
    and_is false b = refl
    and_is true true = refl
    and_is true false = refl

-- a call of `all` over a range, whose closure stays as it was and asks p of each number
module _ {F : Type 0} {g : Mut F (ℕ × Unit {0}) Bool} (n : ℕ) (p : ℕ → Bool) {s u : Range ℕ} {f : F} where
  pub all_below : {r : Bool}
      → (xs : List ℕ) × (o : Option ℕ) × (j : F) × YieldsThen nat_range_steps s xs o u × FoldsTo (λ q x t. Called g q (x, tt) true t) f xs j × MatchOption o (r ≡ true) (λ x. (r ≡ false) × ((h : F) × Called g j (x, tt) false h))
      → s ≡ record { start = 0; end = n } → ((x : ℕ) (b : Bool) (q : F) → Called g f (x, tt) b q → (q ≡ f) × (b ≡ p x)) → r ≡ every n p
  all_below {r} ran e calls = all_from_yields_List p u f r ran (YieldsList-from_range 0 n n e (omega arith)) calls ∙ all_range n p

  pub any_below : {r : Bool}
      → (xs : List ℕ) × (o : Option ℕ) × (j : F) × YieldsThen nat_range_steps s xs o u × FoldsTo (λ q x t. Called g q (x, tt) false t) f xs j × MatchOption o (r ≡ false) (λ x. (r ≡ true) × ((h : F) × Called g j (x, tt) true h))
      → s ≡ record { start = 0; end = n } → ((x : ℕ) (b : Bool) (q : F) → Called g f (x, tt) b q → (q ≡ f) × (b ≡ p x)) → r ≡ some n p
  any_below {r} ran e calls = any_from_yields_List p u f r ran (YieldsList-from_range 0 n n e (omega arith)) calls ∙ any_range n p

-- ---- tests of each element
passes_so_far : {A : Type 0} (p : A → Bool) (d : A) (xs : List A) (n : ℕ) → n ≤ length xs → list_all p (take n xs) ≡ every n (λ i. p (get_or xs i d))
unfolding every
passes_so_far p d xs zero l = refl
passes_so_far p d xs (suc n) l =
    rw add-one at (list_all_more p xs n d (omega arith))
    ∙ ap (λ (b : Bool). b && p (get_or xs n d)) (passes_so_far p d xs n (omega arith)) ∙ joined _ _

-- a test of each element is one of each place
pub each_passes : {A : Type 0} (p : A → Bool) (d : A) (xs : List A) → list_all p xs ≡ every (length xs) (λ i. p (get_or xs i d))
each_passes p d xs = ap (list_all p) (sym (take-length xs)) ∙ passes_so_far p d xs (length xs) (omega arith)
