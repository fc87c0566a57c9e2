-- What a search finds, and how a loop goes about it.
--     passed_none, passed_more     nothing is passed at first; one number more is passed
--     first_of_none, first_of_hit    a loop's end: all passed, or an answer at k after all before it passed
--     first_of_clear, first_of_at    the same read off the search
-- Assumes nothing.
use mathlib.Core.Path.{◌≡◌, refl, subst, sym, ◌∙◌}
use mathlib.Core.Bool.{Bool, true, false}
use mathlib.Core.Option.{Option, some, none}
use mathlib.Core.Logic.{⊎_elim, ◌⊎◌, inl, inr}
use Prim.Native.Nat.{ℕ, zero, suc, ◌+◌, ◌<◌, ◌≤◌}
use native.Mathlib.Nat.{le_refl, le_of_suc-le-suc, not-suc-le-zero, eq-or-lt_of_le}
use native.Mathlib.Omega.{arith}
use lib.Dec.{ltb}
use borrow.Author.Count.{below_more}
use borrow.Author.Tests.{le-ltb, lt-ltb}
use Rattle.laws.specs.Choice.{or_else, when}
use Rattle.laws.specs.Search.{first_of, Passed, First}
use Rattle.laws.proofs.Tests.{not_both}

-- ---- answers that may be missing
pub no_answer {ℓ} : {X : Type ℓ} {A : Type 0} {x : A} → some x ≡ none → X
no_answer e = absurd (let z : ◌≡◌ {A = ℕ} 0 1 = cc in omega arith)

pub or_none : {A : Type 0} (x y : Option A) → or_else x y ≡ none → (x ≡ none) × (y ≡ none)
unfolding or_else
or_none none y e = (refl, e)
or_none (some x) y e = no_answer e

pub or_some : {A : Type 0} (x y : Option A) (v : A) → or_else x y ≡ some v → (x ≡ some v) ⊎ ((x ≡ none) × (y ≡ some v))
unfolding or_else
or_some none y v e = inr (refl, e)
or_some (some x) y v e = inl e

pub when_yes : {A : Type 0} {b : Bool} (x : Option A) → b ≡ true → when b x ≡ x
unfolding when
when_yes x e = rw e

pub when_no : {A : Type 0} {b : Bool} (x : Option A) → b ≡ false → when b x ≡ none
unfolding when
when_no x e = rw e

pub when_rest : {A : Type 0} (b : Bool) {x : Option A} → x ≡ none → when b x ≡ none
unfolding when
when_rest true e = e
when_rest false e = refl

pub when_none : {A : Type 0} (b : Bool) (x : Option A) → when b x ≡ none → b ≡ true → x ≡ none
unfolding when
when_none true x h e = h
when_none false x h e = not_both e refl

pub when_some : {A : Type 0} (b : Bool) (x : Option A) (v : A) → when b x ≡ some v → (b ≡ true) × (x ≡ some v)
unfolding when
when_some true x v h = (refl, h)
when_some false x v h = no_answer (sym h)

-- an answer that is given where a test holds
pub when_clear : {A : Type 0} (b : Bool) (x : A) → when b (some x) ≡ none → b ≡ false
unfolding when
when_clear true x e = no_answer e
when_clear false x e = refl

-- ---- how a loop goes on
pub passed_none : {A : Type 0} (f : ℕ → Option A) → Passed 0 f
passed_none f = record { clear = λ k l. absurd (not-suc-le-zero l) }

pub passed_more : {A : Type 0} (f : ℕ → Option A) (i : ℕ) → Passed i f → f i ≡ none → Passed (i + 1) f
passed_more f i h e = record { clear = below_more (λ (k : ℕ). f k ≡ none) i h.clear e }

-- i is where a loop over the range has come to: it has passed all below i, and n is not above i
pub first_of_none : {A : Type 0} (n : ℕ) {i : ℕ} (f : ℕ → Option A) → n ≤ i → Passed i f → first_of n f ≡ none
unfolding first_of or_else
first_of_none zero f l h = refl
first_of_none (suc n) f l h = rw (first_of_none n f (omega arith) h) (h.clear n l)

pub first_of_hit : {A : Type 0} (n : ℕ) (f : ℕ → Option A) (k : ℕ) (x : A) → k < n → Passed k f → f k ≡ some x → first_of n f ≡ some x
unfolding first_of or_else
first_of_hit zero f k x l h e = absurd (not-suc-le-zero l)
first_of_hit (suc n) f k x l h e =
    ⊎_elim
    (λ (q : k ≡ n). rw (first_of_none n f (omega arith) h) (subst (λ (m : ℕ). f m ≡ some x) q e))
    (λ (lt : k < n). rw (first_of_hit n f k x lt h e))
    (eq-or-lt_of_le (le_of_suc-le-suc l))

-- ---- what a search's answer says
pub first_of_clear : {A : Type 0} (n : ℕ) (f : ℕ → Option A) → first_of n f ≡ none → (k : ℕ) → k < n → f k ≡ none
unfolding first_of
first_of_clear zero f e k l = absurd (not-suc-le-zero l)
first_of_clear (suc n) f e k l =
    let p = or_none _ _ e in
    ⊎_elim
    (λ (q : k ≡ n). rw q p.1)
    (λ (lt : k < n). first_of_clear n f p.0 k lt)
    (eq-or-lt_of_le (le_of_suc-le-suc l))

pub first_of_at : {A : Type 0} (n : ℕ) (f : ℕ → Option A) (x : A) → first_of n f ≡ some x → First n f x
unfolding first_of
first_of_at zero f x e = no_answer (sym e)
first_of_at (suc n) f x e =
    ⊎_elim
    (λ (p : first_of n f ≡ some x).
    let r = first_of_at n f x p in
    record { at = r.at; below = omega arith; before = r.before; here = r.here })
    (λ (p : (first_of n f ≡ none) × (f n ≡ some x)).
    record { at = n; below = omega arith; before = record { clear = first_of_clear n f p.0 }; here = p.1 })
    (or_some _ _ x e)

pub first_of_empty : {A : Type 0} (n : ℕ) (f : ℕ → Option A) → ((k : ℕ) → k < n → f k ≡ none) → first_of n f ≡ none
first_of_empty n f h = first_of_none n {i = n} f (le_refl n) (record { clear = h })

-- what `search` is handed at a loop's needs
pub ruleset sweep = (passed_none, passed_more, first_of_none, arith)

-- a place that counts
pub when_hit : {A : Type 0} {b : Bool} (x : Option A) (v : A) → b ≡ true → x ≡ some v → when b x ≡ some v
when_hit x v e q = when_yes x e ∙ q

-- a pair s < t is looked at, and no other
pub pair_hit : {A : Type 0} (s t : ℕ) (x : Option A) (v : A) → s < t → x ≡ some v → when true (when (ltb s t) x) ≡ some v
pair_hit s t x v l e = when_hit _ v refl (when_hit x v (lt-ltb s t l) e)

pub pairs_passed : {A : Type 0} (f : ℕ → Option A) (s : ℕ) → Passed (s + 1) (λ t. when true (when (ltb s t) (f t)))
pairs_passed f s = record { clear = λ k l. when_rest true (when_no (f k) (le-ltb s k (omega arith))) }
