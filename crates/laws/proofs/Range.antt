-- Tests over the numbers below n: what they say, and how a loop goes about them.
-- Assumes nothing.
use mathlib.Core.Path.{◌≡◌, refl, sym, ap, subst}
use mathlib.Core.Logic.{◌⊎◌, inl, inr, ⊎_elim}
use mathlib.Core.Bool.{Bool, true, false}
use Prim.Native.Nat.{ℕ, zero, suc, ◌+◌, ◌<◌, ◌≤◌}
use native.Mathlib.Nat.{not-suc-le-zero, le_of_suc-le-suc}
use native.Mathlib.Decide.{dec_lt}
use native.Mathlib.Omega.{arith}
use borrow.Author.Count.{below_more}
use Rattle.laws.specs.Range.{every, some, first, tabulate, Held}
use Rattle.laws.specs.Choice.{choose}
use Rattle.laws.proofs.Tests.{by_test, not_both, both_true, both_of, either_true, either_left, either_right}

-- a number below n + 1 is below n, or n
pub below_suc : {i n : ℕ} → i < suc n → (i < n) ⊎ (i ≡ n)
below_suc {i} {n} h = go (dec_lt i n)
  where
    go : Dec (i < n) → (i < n) ⊎ (i ≡ n)
    go (yes p) = inl p
    go (no q) = inr (omega arith)

-- one of two numbers is below the other, or they are one
pub by_order : {X : Type 0} (s t : ℕ) → (s < t → X) → (t < s → X) → (s ≡ t → X) → X
by_order {X} s t f g h = go (dec_lt s t) (dec_lt t s)
  where
    go : Dec (s < t) → Dec (t < s) → X
    go (yes l) d = f l
    go (no l) (yes m) = g m
    go (no l) (no m) = h (omega arith)

-- ---- every
pub every_at : (n : ℕ) (p : ℕ → Bool) → every n p ≡ true → (i : ℕ) → i < n → p i ≡ true
unfolding every
every_at zero p e i h = absurd (not-suc-le-zero h)
every_at (suc n) p e i h =
    ⊎_elim (λ l. every_at n p (both_true _ _ e).0 i l) (λ q. subst (λ x. p x ≡ true) (sym q) (both_true _ _ e).1) (below_suc h)

pub every_of : (n : ℕ) (p : ℕ → Bool) → ((i : ℕ) → i < n → p i ≡ true) → every n p ≡ true
unfolding every
every_of zero p h = refl
every_of (suc n) p h = both_of (every_of n p (λ i l. h i (omega arith))) (h n (omega arith))

pub every_fails : (n : ℕ) (p : ℕ → Bool) → every n p ≡ false → (i : ℕ) × (i < n) × (p i ≡ false)
unfolding every
every_fails zero p e = not_both refl e
every_fails (suc n) p e =
    by_test (p n)
    (λ q. up (every_fails n p (by_test (every n p) (λ r. not_both (both_of r q) e) (λ r. r))))
    (λ q. (n, omega arith, q))
  where
    up : (i : ℕ) × (i < n) × (p i ≡ false) → (i : ℕ) × (i < suc n) × (p i ≡ false)
    up w = let h : w.0 < n = w.1 in (w.0, omega arith, w.2)

pub every_not : (n : ℕ) (p : ℕ → Bool) (i : ℕ) → i < n → p i ≡ false → every n p ≡ false
every_not n p i l e = by_test (every n p) (λ h. not_both (every_at n p h i l) e) (λ h. h)

pub held_none : (p : ℕ → Bool) → Held 0 p
held_none p = record { each = λ k l. absurd (not-suc-le-zero l) }

pub held_more : (p : ℕ → Bool) (i : ℕ) → Held i p → p i ≡ true → Held (i + 1) p
held_more p i h e = record { each = below_more (λ (k : ℕ). p k ≡ true) i h.each e }

pub every_held : (n : ℕ) {i : ℕ} (p : ℕ → Bool) → n ≤ i → Held i p → every n p ≡ true
every_held n p l h = every_of n p (λ k lk. h.each k (omega arith))

-- what `search` is handed at the goals of a loop that tests every number
pub ruleset sweep_every = (held_none, held_more, every_held, arith)

-- ---- some
pub some_at : (n : ℕ) (p : ℕ → Bool) → some n p ≡ true → (i : ℕ) × (i < n) × (p i ≡ true)
unfolding some
some_at zero p e = not_both e refl
some_at (suc n) p e = ⊎_elim (λ h. up (some_at n p h)) (λ h. (n, omega arith, h)) (either_true _ _ e)
  where
    up : (i : ℕ) × (i < n) × (p i ≡ true) → (i : ℕ) × (i < suc n) × (p i ≡ true)
    up w = let h : w.0 < n = w.1 in (w.0, omega arith, w.2)

pub some_of : (n : ℕ) (p : ℕ → Bool) (i : ℕ) → i < n → p i ≡ true → some n p ≡ true
unfolding some
some_of zero p i l e = absurd (omega arith)
some_of (suc n) p i l e =
    ⊎_elim (λ h. either_left _ (some_of n p i h e)) (λ h. either_right _ (subst (λ x. p x ≡ true) h e)) (below_suc l)

pub some_none : (n : ℕ) (p : ℕ → Bool) → ((i : ℕ) → i < n → p i ≡ false) → some n p ≡ false
some_none n p h = by_test (some n p) (λ e. let f = some_at n p e in not_both f.2 (h f.0 f.1)) (λ e. e)

-- ---- first
pub first_at : (n : ℕ) (p : ℕ → Bool) (i : ℕ) → i < n → ((j : ℕ) → j < i → p j ≡ false) → p i ≡ true → first n p ≡ i
unfolding first choose
first_at zero p i l h e = absurd (not-suc-le-zero l)
first_at (suc n) p zero l h e = rw e
first_at (suc n) p (suc i) l h e =
    rw (h 0 (omega arith)) (ap suc (first_at n (λ j. p (suc j)) i (le_of_suc-le-suc l) (λ j k. h (suc j) (omega arith)) e))

pub first_none : (n : ℕ) (p : ℕ → Bool) → ((j : ℕ) → j < n → p j ≡ false) → first n p ≡ n
unfolding first choose
first_none zero p h = refl
first_none (suc n) p h = rw (h 0 (omega arith)) (ap suc (first_none n (λ j. p (suc j)) (λ j k. h (suc j) (omega arith))))

pub first_le : (n : ℕ) (p : ℕ → Bool) → first n p ≤ n
unfolding first choose
first_le zero p = omega arith
first_le (suc n) p =
    let h : first n (λ i. p (suc i)) ≤ n = first_le n (λ i. p (suc i)) in
    by_test (p 0) (λ e. rw e (omega arith)) (λ e. rw e (omega arith))

pub first_holds : (n : ℕ) (p : ℕ → Bool) → first n p < n → p (first n p) ≡ true
unfolding first choose
first_holds zero p l = absurd (not-suc-le-zero l)
first_holds (suc n) p l =
    by_test (p 0) (λ e. rw e e)
    (λ e. rw e (first_holds n (λ i. p (suc i)) (le_of_suc-le-suc (rw e at l))))

pub first_least : (n : ℕ) (p : ℕ → Bool) (i : ℕ) → i < n → p i ≡ true → first n p ≤ i
unfolding first choose
first_least zero p i l e = absurd (not-suc-le-zero l)
first_least (suc n) p zero l e = rw e (omega arith)
first_least (suc n) p (suc i) l e =
    let h : first n (λ i. p (suc i)) ≤ i = first_least n (λ i. p (suc i)) i (le_of_suc-le-suc l) e in
    by_test (p 0) (λ q. rw q (omega arith)) (λ q. rw q (omega arith))

-- ---- tabulate
pub tabulate_same : {A : Type 0} (n : ℕ) (f g : ℕ → A) → ((i : ℕ) → i < n → f i ≡ g i) → tabulate n f ≡ tabulate n g
unfolding tabulate
tabulate_same zero f g h = refl
tabulate_same (suc n) f g h = rw (tabulate_same n f g (λ i l. h i (omega arith)), h n (omega arith))

-- tests that agree at each number
pub every_same : (n : ℕ) (p q : ℕ → Bool) → ((i : ℕ) → i < n → p i ≡ q i) → every n p ≡ every n q
unfolding every
every_same zero p q h = refl
every_same (suc n) p q h = rw (h n (omega arith), every_same n p q (λ i l. h i (omega arith)))

pub some_same : (n : ℕ) (p q : ℕ → Bool) → ((i : ℕ) → i < n → p i ≡ q i) → some n p ≡ some n q
unfolding some
some_same zero p q h = refl
some_same (suc n) p q h = rw (h n (omega arith), some_same n p q (λ i l. h i (omega arith)))
