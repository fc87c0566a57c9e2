-- Tables made by a rule, and flags that are set one by one.
-- Assumes nothing.
use mathlib.Core.Path.{◌≡◌, refl, sym, ◌∙◌, ap, subst}
use mathlib.Core.Logic.{⊎_elim, ◌≢◌}
use mathlib.Core.Bool.{Bool, true, false}
use mathlib.Core.List.{List, [], ◌∷◌}
use Prim.Native.Nat.{ℕ, zero, suc, ◌+◌, ◌-◌, ◌<◌, ◌≤◌}
use native.Mathlib.Nat.{not-suc-le-zero}
use native.Mathlib.Numerals.{add-one}
use native.Mathlib.Omega.{arith}
use lib.ListN.{length, get_or, set, drop, replicate, length-append, get_or-append}
use lib.Seq.{get_or-set_same, get_or-set_other, get_or_at, ext_get_or}
use Rattle.laws.specs.Choice.{choose}
use Rattle.laws.specs.Range.{count, tabulate}
use Rattle.laws.proofs.Tests.{by_test, not_both}
use Rattle.laws.proofs.Range.{below_suc, by_order}
use Rattle.laws.proofs.Count.{count_same}

pub length_tabulate : {A : Type 0} (n : ℕ) (f : ℕ → A) → length (tabulate n f) ≡ n
unfolding tabulate
length_tabulate zero f = refl
length_tabulate (suc n) f = length-append (tabulate n f) (f n ∷ []) ∙ (let h : length (tabulate n f) ≡ n = length_tabulate n f in omega arith)

pub tabulate_at : {A : Type 0} (n : ℕ) (f : ℕ → A) (i : ℕ) (d : A) → i < n → get_or (tabulate n f) i d ≡ f i
unfolding tabulate
tabulate_at zero f i d l = absurd (not-suc-le-zero l)
tabulate_at (suc n) f i d l =
    ⊎_elim
    (λ (h : i < n). get_or-append (tabulate n f) (f n ∷ []) d i (rw (length_tabulate n f) h) ∙ tabulate_at n f i d h)
    (λ (e : i ≡ n). get_or_at (tabulate n f) (f n) [] d i (length_tabulate n f ∙ sym e) ∙ ap f (sym e))
    (below_suc l)

-- a table that has each entry by the rule
pub tabulated : {A : Type 0} (d : A) (n : ℕ) (f : ℕ → A) (l : List A) → length l ≡ n → ((i : ℕ) → i < n → get_or l i d ≡ f i) → l ≡ tabulate n f
tabulated d n f l e h =
    ext_get_or d l (tabulate n f) (e ∙ sym (length_tabulate n f)) (λ i p. h i (rw e at p) ∙ sym (tabulate_at n f i d (rw e at p)))

pub count_none : (n : ℕ) → count n (λ _. false) ≡ 0
unfolding count choose
count_none zero = refl
count_none (suc n) = count_none n

-- nothing passes from k on
pub count_beyond : (p : ℕ → Bool) (k n : ℕ) → k ≤ n → ((s : ℕ) → k ≤ s → p s ≡ false) → count n p ≡ count k p
unfolding count choose
count_beyond p k zero l h = let e : k ≡ 0 = omega arith in ap (λ x. count x p) (sym e)
count_beyond p k (suc n) l h =
    by_order k (suc n) (λ q. rw (h n (omega arith)) (count_beyond p k n (omega arith) h)) (λ q. absurd (omega arith)) (λ q. ap (λ x. count x p) (sym q))

-- how a loop counts what passes
pub count_begun : (p : ℕ → Bool) → 0 ≡ count 0 p
unfolding count
count_begun p = refl

pub count_yes : (p : ℕ → Bool) {n s : ℕ} → n ≡ count s p → p s ≡ true → n + 1 ≡ count (s + 1) p
unfolding count choose
count_yes p {n} {s} e h = rw (add-one, add-one, h) (ap suc e)

pub count_no : (p : ℕ → Bool) {n s : ℕ} → n ≡ count s p → p s ≡ false → n ≡ count (s + 1) p
unfolding count choose
count_no p {n} {s} e h = rw (add-one, h) e

-- one flag more
pub set_true : (flags : List Bool) (t : ℕ) → t < length flags → get_or (set flags t true) t false ≡ true
set_true flags t l = get_or-set_same flags t true false l

pub set_stays : (flags : List Bool) (t s : ℕ) → t < length flags → get_or flags s false ≡ true → get_or (set flags t true) s false ≡ true
set_stays flags t s l e = by_test (get_or (set flags t true) s false) (λ h. h) (λ h. absurd (ne h))
  where
    ne : get_or (set flags t true) s false ≡ false → ⊥
    ne h =
        not_both e (sym (get_or-set_other flags t s true false (λ q. not_both (subst (λ (x : ℕ). get_or (set flags t true) x false ≡ true) (sym q) (set_true flags t l)) h)) ∙ h)

pub count_set : (flags : List Bool) (t : ℕ) → t < length flags → get_or flags t false ≡ false → (n : ℕ) → t < n →
    count n (λ s. get_or (set flags t true) s false) ≡ count n (λ s. get_or flags s false) + 1
unfolding count choose
count_set flags t l e zero p = absurd (not-suc-le-zero p)
count_set flags t l e (suc n) p =
    ⊎_elim
    (λ (q : t < n).
    let ne : n ≢ t = omega arith in
    let h : count n (λ s. get_or (set flags t true) s false) ≡ count n (λ s. get_or flags s false) + 1 = count_set flags t l e n q in
    let o : get_or (set flags t true) n false ≡ get_or flags n false = get_or-set_other flags t n true false ne in
    by_test (get_or flags n false) (λ f. rw (o, f) (omega arith)) (λ f. rw (o, f) (omega arith)))
    (λ (q : t ≡ n).
    let here : get_or (set flags t true) n false ≡ true = subst (λ (x : ℕ). get_or (set flags t true) x false ≡ true) q (set_true flags t l) in
    let gone : get_or flags n false ≡ false = subst (λ (x : ℕ). get_or flags x false ≡ false) q e in
    let h : count n (λ s. get_or (set flags t true) s false) ≡ count n (λ s. get_or flags s false) =
    count_same n _ _ (λ i k. get_or-set_other flags t i true false (λ w. absurd (omega arith))) in
    rw (here, gone) (omega arith))
    (below_suc p)

-- tables of zeros
pub drop_zeros : (n k : ℕ) → drop {A = ℕ} n (replicate k 0) ≡ replicate (k - n) 0
drop_zeros zero k = let e : k ≡ k - 0 = omega arith in ap (λ (j : ℕ). replicate {A = ℕ} j 0) e
drop_zeros (suc n) zero = let e : 0 ≡ 0 - suc n = omega arith in ap (λ (j : ℕ). replicate {A = ℕ} j 0) e
drop_zeros (suc n) (suc k) = let e : k - n ≡ suc k - suc n = omega arith in drop_zeros n k ∙ ap (λ (j : ℕ). replicate {A = ℕ} j 0) e

pub zero_at : (k u : ℕ) → ◌≡◌ {A = ℕ} (get_or (replicate k 0) u 0) 0
zero_at zero u = refl
zero_at (suc k) zero = refl
zero_at (suc k) (suc u) = zero_at k u
