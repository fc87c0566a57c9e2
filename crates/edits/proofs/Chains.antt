-- What iterators and `from_fn` give, in the words of `laws/specs/Range`; and a set that is gathered place by place.
-- Assumes nothing.
use Rattle.std.proofs.Common.{◌≡◌, refl, sym, ap, subst, ◌∙◌, ℕ, zero, suc, ◌+◌, ◌<◌, ◌≤◌, ◌^◌, List, [], ◌∷◌, ◌++◌, Bool, true, false, ◌||◌, ◌&&◌, length, get_or, arith}
use native.Mathlib.Nat.{pow-suc}
use lib.Dec.{eqb}
use borrow.Author.Tests.{eqb-true, eqb-false}
use denote.Param.Members.{Mut}
use Rattle.std.specs.Fn.{Called}
use Rattle.std.specs.Array.{IsFromFnResult, IsFromFnResultFrom}
use Rattle.std.specs.List.{position_or_len, list_all, list_any, range_with_len}
use Rattle.std.proofs.lemmas.List.Recursion.{is_position_or_len}
use Rattle.std.proofs.lemmas.List.Folds.{list_all-append, list_any-append}
use Rattle.laws.specs.Choice.{both, either, choose}
use Rattle.laws.specs.Range.{every, some, first, tabulate}
use Rattle.laws.specs.Bits.{gather}
use Rattle.laws.proofs.Tests.{by_test}
use Rattle.laws.proofs.Tables.{tabulated}
use Rattle.edits.specs.Records.{at}
use Rattle.edits.specs.declared.BoxRecord.{BoxRecord}

-- ---- the first record that passes
pub first_position : (p : BoxRecord → Bool) (l : List BoxRecord) → first (length l) (λ k. p (at l k)) ≡ position_or_len p l
unfolding first choose
first_position p = is_position_or_len (λ (l : List BoxRecord). first (length l) (λ k. p (at l k))) p refl (λ x l. by_test (p x) (λ e. rw e refl) (λ e. rw e (omega arith)))

-- ---- an array that a closure makes: each call leaves the closure as it was, and gives what h says
pub made_from : {F B : Type 0} (g : Mut F (ℕ × Unit {0}) B) (d : B) (n : ℕ) (h : ℕ → B) (f : F) (ys : List B) → IsFromFnResult g f ys n
    → ((i : ℕ) (y : B) (q : F) → i < n → Called g f (i, tt) y q → (q ≡ f) × (y ≡ h i)) → ys ≡ tabulate n h
made_from {F} {B} g d n h f ys r calls = tabulated d n h ys r.long (λ j b. go n 0 f refl r.each (omega arith) j (omega arith) (omega arith))
  where
    go : (m i : ℕ) (p : F) → p ≡ f → IsFromFnResultFrom g p ys i m → i + m ≡ n → (j : ℕ) → i ≤ j → j < i + m → get_or ys j d ≡ h j
    go zero i p e c s j a b = absurd (omega arith)
    go (suc m) i p e (q, y, is, call, more) s j a b =
        let t = calls i y q (omega arith) (subst (λ (x : F). Called g x (i, tt) y q) e call) in
        by_place j i a (λ same. subst (λ (k : ℕ). get_or ys k d ≡ h k) (sym same) (is.1 d ∙ t.1)) (λ behind. go m (i + 1) q t.0 more (omega arith) j (omega arith) (omega arith))
      where
        by_place : {X : Type 0} (j i : ℕ) → i ≤ j → (j ≡ i → X) → (i < j → X) → X
        by_place j i a here behind = by_test (eqb j i) (λ e. here (eqb-true _ _ e)) (λ e. let ne : j ≡ i → ⊥ = eqb-false _ _ e in behind (omega arith))

-- ---- one place more, at the end
gather_one : (s n : ℕ) (f : ℕ → ℕ) → f (s + n) ≡ 1 → gather s (suc n) f ≡ gather s n f + 2 ^ n
unfolding gather
gather_one s zero f e = let i : s ≡ s + 0 = omega arith in omega (arith, ap f i ∙ e)
gather_one s (suc n) f e =
    let i : s + 1 + n ≡ s + suc n = omega arith in
    rw (pow-suc 2 n) (omega (arith, gather_one (s + 1) n f (ap f i ∙ e)))

gather_zero : (s n : ℕ) (f : ℕ → ℕ) → f (s + n) ≡ 0 → gather s (suc n) f ≡ gather s n f
unfolding gather
gather_zero s zero f e = let i : s ≡ s + 0 = omega arith in omega (arith, ap f i ∙ e)
gather_zero s (suc n) f e =
    let i : s + 1 + n ≡ s + suc n = omega arith in
    omega (arith, gather_zero (s + 1) n f (ap f i ∙ e))

pub gather_yes : (n : ℕ) (f : ℕ → ℕ) → f n ≡ 1 → gather 0 (n + 1) f ≡ gather 0 n f + 2 ^ n
gather_yes n f e = let i : 0 + n ≡ n = omega arith in let j : n + 1 ≡ suc n = omega arith in ap (λ (m : ℕ). gather 0 m f) j ∙ gather_one 0 n f (ap f i ∙ e)

pub gather_no : (n : ℕ) (f : ℕ → ℕ) → f n ≡ 0 → gather 0 (n + 1) f ≡ gather 0 n f
gather_no n f e = let i : 0 + n ≡ n = omega arith in let j : n + 1 ≡ suc n = omega arith in ap (λ (m : ℕ). gather 0 m f) j ∙ gather_zero 0 n f (ap f i ∙ e)
