-- A search may begin at the start of a state's small number.
-- Assumes nothing.
use mathlib.Core.Path.{◌≡◌, refl, sym, ◌∙◌, ap, subst}
use mathlib.Core.Logic.{◌≢◌, ⊎_elim}
use mathlib.Core.Bool.{Bool, true, false}
use mathlib.Core.List.{List}
use Prim.Native.Nat.{ℕ, zero, suc, ◌+◌, ◌*◌, ◌%◌, ◌<◌, ◌≤◌}
use native.Mathlib.Nat.{eq-or-lt_of_le, not-suc-le-zero}
use native.Mathlib.Numerals.{add-one}
use native.Mathlib.Omega.{arith}
use borrow.Author.Count.{below_more}
use lib.Dec.{eqb}
use lib.ListN.{length}
use Rattle.laws.specs.Choice.{both}
use Rattle.laws.proofs.Tests.{by_test, not_both, both_of, both_true}
use Rattle.laws.proofs.Range.{below_suc}
use Rattle.model.specs.Limits.{STATES}
use Rattle.needs.specs.Tables.{entry, Steps}
use Rattle.needs.specs.Classes.{lowest, Missed, Below}
use Rattle.needs.specs.Starts.{SLOTS, slot_of, Begun, Began}
use Rattle.needs.proofs.Classes.{lowest_le, lowest_holds}
use Rattle.needs.proofs.Looking.{one_of}

-- ---- small numbers
pub slot_begun : (f : ℕ → ℕ) → 0 ≡ slot_of 0 f
unfolding slot_of
slot_begun f = refl

pub slot_more : (f : ℕ → ℕ) {i k x : ℕ} → k ≡ slot_of i f → x ≡ f i → (5 * k + x) % 256 ≡ slot_of (i + 1) f
unfolding slot_of
slot_more f {i} {k} {x} e ex = rw (e, ex, add-one i)

pub slot_small : (n : ℕ) (f : ℕ → ℕ) → slot_of n f < SLOTS
unfolding slot_of
slot_small zero f = omega arith
slot_small (suc n) f = omega arith

pub slot_bound : (f : ℕ → ℕ) (i : ℕ) {k : ℕ} → k ≡ slot_of i f → k < SLOTS
slot_bound f i e = rw e (slot_small i f)

-- ---- the starts

module _ (inside : ℕ → Bool) (E : ℕ → ℕ → Bool) (old slot : ℕ → ℕ) where
  pub begun_none : {starts : List ℕ} → length starts ≡ SLOTS → Begun inside E old slot starts 0
  begun_none e = record { long = e; each = λ t l. absurd (not-suc-le-zero l) }

  module _ {starts : List ℕ} {s : ℕ} (h : Begun inside E old slot starts s) where
    -- s led its old class, or leads none
    pub begun_old : s ≡ old s → Begun inside E old slot starts (s + 1)
    begun_old e = record {
      long = h.long;
      each = below_more (λ t. inside t ≡ true → lowest inside E t ≡ t → t ≢ old t → entry starts (slot t) ≤ t) s h.each (λ i q n. absurd (n e));
    }

    pub begun_follows : {x : ℕ} → x ≡ lowest inside E s → x < s → Begun inside E old slot starts (s + 1)
    begun_follows e l = record {
      long = h.long;
      each = below_more (λ t. inside t ≡ true → lowest inside E t ≡ t → t ≢ old t → entry starts (slot t) ≤ t) s h.each (λ i q n. absurd (omega arith));
    }

    pub begun_more : {starts' : List ℕ} {k r : ℕ} → k ≡ slot s → Began starts starts' k s r → Begun inside E old slot starts' (s + 1)
    begun_more {starts'} {k} {r} e b = record {
      long = b.long;
      each = below_more (λ t. inside t ≡ true → lowest inside E t ≡ t → t ≢ old t → entry starts' (slot t) ≤ t) s
          (λ t l i q n. let m = h.each t l i q n in let o = b.lower (slot t) in omega arith)
          (λ i q n. subst (λ j. entry starts' j ≤ s) e b.here);
    }

    -- before the start nothing is alike, if the first of the old class is not
    pub begun_missed : ((r t s : ℕ) → E r t ≡ true → E t s ≡ true → E r s ≡ true) → ((t : ℕ) → E t s ≡ true → old t ≡ old s) →
        ((t : ℕ) → E t s ≡ true → slot t ≡ slot s) → {x : ℕ} → x ≡ old s → both (inside x) (E x s) ≡ false →
        {starts' : List ℕ} {k r : ℕ} → k ≡ slot s → Began starts starts' k s r → Missed inside E s r
    begun_missed joined of-old of-slot {x} ex n {starts'} {k} {r} ek b = record { none = none r (omega arith) }
      where
        alone : (t : ℕ) → t < r → ((j : ℕ) → j < t → both (inside j) (E j s) ≡ false) → both (inside t) (E t s) ≡ true → ⊥
        alone t l m e =
            let q = both_true _ _ e in
            ⊎_elim
            (λ (z : lowest inside E t ≡ t). ⊎_elim
            (λ (o : t ≡ old t). not_both (subst (λ y. both (inside y) (E y s) ≡ true) (o ∙ of-old t q.1 ∙ sym ex) e) n)
            (λ (o : t ≢ old t). let g = h.each t (omega (arith, b.most)) q.0 z o in
            let f = b.low in
            let w : slot t ≡ k = of-slot t q.1 ∙ sym ek in
            let v : entry starts (slot t) ≡ entry starts k = ap (entry starts) w in absurd (omega arith))
            (one_of t (old t) (eqb t (old t)) refl))
            (λ (z : lowest inside E t < t). let v = lowest_holds inside E t z in
            not_both (both_of v.0 (joined (lowest inside E t) t s v.1 q.1)) (m (lowest inside E t) z))
            (eq-or-lt_of_le (lowest_le inside E t))

        none : (m : ℕ) → m ≤ r → (j : ℕ) → j < m → both (inside j) (E j s) ≡ false
        none zero l j p = absurd (not-suc-le-zero p)
        none (suc m) l j p =
            ⊎_elim
            (λ (q : j < m). none m (omega arith) j q)
            (λ (q : j ≡ m). subst (λ y. both (inside y) (E y s) ≡ false) (sym q)
            (by_test (both (inside m) (E m s)) (λ e. absurd (alone m (omega arith) (none m (omega arith)) e)) (λ e. e)))
            (below_suc p)

pub below_small : {states actions : ℕ} {next c : List ℕ} {s x : ℕ} → Steps states actions next → Below states c → s < states → x ≡ entry c s → x < STATES
below_small w b l e = omega (arith, w.states_most, b.upto _ l)
