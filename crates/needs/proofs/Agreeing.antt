-- What the loops answer that compare states.
-- Assumes nothing.
use mathlib.Core.Path.{◌≡◌, sym, ◌∙◌, ap}
use mathlib.Core.Logic.{⊎_elim}
use mathlib.Core.Bool.{Bool, true, false}
use mathlib.Core.List.{List}
use Prim.Native.Nat.{ℕ, ◌+◌, ◌<◌, ◌≤◌}
use native.Mathlib.Omega.{arith}
use native.Mathlib.Nat.{not-suc-le-zero, eq-or-lt_of_le}
use borrow.Author.Count.{below_more}
use borrow.Author.Tests.{ne_eqb}
use lib.Dec.{eqb}
use lib.ListN.{length, set, length-set}
use lib.Seq.{get_or-set_same, get_or-set_other}
use Rattle.laws.specs.Choice.{both}
use Rattle.laws.specs.Range.{first}
use Rattle.laws.proofs.Tests.{by_test, not_both, both_of, both_true, both_no}
use Rattle.laws.proofs.Range.{every_not, first_at, first_none}
use Rattle.model.specs.Limits.{STATES}
use Rattle.needs.specs.Tables.{entry}
use Rattle.needs.specs.Classes.{lowest, agrees, Missed, Below, Led}
use Rattle.needs.specs.Laws.{agrees_now}
use Rattle.needs.proofs.Classes.{lowest_le, lowest_holds}

-- ---- two states agree
abbrev pub SameAfter : (ℕ → ℕ → ℕ) → (ℕ → ℕ) → ℕ → ℕ → ℕ → Bool
SameAfter step c t s a = eqb (c (step t a)) (c (step s a))

module _ (step : ℕ → ℕ → ℕ) (actions : ℕ) (c : ℕ → ℕ) (t s : ℕ) where
  pub agrees_parts : {a x y : ℕ} → a < actions → x ≡ step t a → y ≡ step s a → (c x ≡ c y → ⊥) → false ≡ agrees step actions c t s
  unfolding agrees
  agrees_parts {a} l ex ey n =
      sym (both_no (eqb (c t) (c s)) (every_not actions (SameAfter step c t s) a l (ne_eqb _ _ (λ e. n (ap c ex ∙ e ∙ sym (ap c ey))))))

-- ---- the search for the first of a class
module _ (inside : ℕ → Bool) (E : ℕ → ℕ → Bool) (s : ℕ) where
  pub missed_more : {t : ℕ} → Missed inside E s t → both (inside t) (E t s) ≡ false → Missed inside E s (t + 1)
  missed_more {t} h e = record { none = below_more (λ j. both (inside j) (E j s) ≡ false) t h.none e }

  pub missed_hit : {t : ℕ} → Missed inside E s t → t < s → both (inside t) (E t s) ≡ true → t ≡ lowest inside E s
  unfolding lowest
  missed_hit {t} h l e = sym (first_at s (λ j. both (inside j) (E j s)) t l h.none e)

  pub missed_all : {t : ℕ} → Missed inside E s t → s ≤ t → s ≡ lowest inside E s
  unfolding lowest
  missed_all h l = sym (first_none s (λ j. both (inside j) (E j s)) (λ j p. h.none j (omega arith)))

  -- a state that is not the first of its own class is not the first that is alike
  pub missed_follows : ((r t s : ℕ) → E r t ≡ true → E t s ≡ true → E r s ≡ true) → {d : List ℕ} {t x n : ℕ} → Led inside E d n → t < n →
      Missed inside E s t → x ≡ entry d t → (x ≡ t → ⊥) → Missed inside E s (t + 1)
  missed_follows joined {d} {t} {x} w l h ex n =
      missed_more h
      (by_test (both (inside t) (E t s))
      (λ e. ⊎_elim
      (λ (q : lowest inside E t ≡ t). absurd (n (ex ∙ w.each t l ∙ q)))
      (λ (q : lowest inside E t < t). let v = lowest_holds inside E t q in
      not_both (both_of v.0 (joined (lowest inside E t) t s v.1 (both_true _ _ e).1)) (h.none (lowest inside E t) q))
      (eq-or-lt_of_le (lowest_le inside E t)))
      (λ e. e))

-- no state before the first of its old class agrees with s
pub missed_start : {states : ℕ} (step : ℕ → ℕ → ℕ) (actions : ℕ) {inside : ℕ → Bool} {c : List ℕ} {s x : ℕ} → Below states c → s < states → x ≡ entry c s →
    Missed inside (agrees step actions (entry c)) s x
missed_start {states} step actions {inside} {c} {s} {x} w l e = record {
  none = λ j p. by_test (both (inside j) (agrees step actions (entry c) j s))
      (λ h. let k = agrees_now step actions (entry c) j s (both_true _ _ h).1 in
      let m = w.upto s l in let n = w.upto j (omega arith) in absurd (omega arith))
      (λ h. h);
}

-- ---- a table of class numbers is filled from the front
module _ (inside : ℕ → Bool) (E : ℕ → ℕ → Bool) where
  pub led_none : {d : List ℕ} → length d ≡ STATES → Led inside E d 0
  led_none e = record { long = e; each = λ s l. absurd (not-suc-le-zero l) }

  -- the first state is the first of its class
  pub led_one : {d : List ℕ} → length d ≡ STATES → entry d 0 ≡ 0 → Led inside E d 1
  unfolding lowest first
  led_one {d} e z = record { long = e; each = below_more (λ j. entry d j ≡ lowest inside E j) 0 (λ j l. absurd (not-suc-le-zero l)) z }

  pub led_more : {d : List ℕ} {s v : ℕ} → Led inside E d s → s < STATES → v ≡ lowest inside E s → Led inside E (set d s v) (s + 1)
  led_more {d} {s} {v} h l e = record {
    long = length-set d s v ∙ h.long;
    each = below_more (λ j. entry (set d s v) j ≡ lowest inside E j) s
        (λ j p. get_or-set_other d s j v 0 (λ q. absurd (omega arith)) ∙ h.each j p)
        (get_or-set_same d s v 0 (omega (arith, h.long)) ∙ e);
  }

  pub led_below : {d : List ℕ} {n : ℕ} → Led inside E d n → Below n d
  led_below {d} h = record { upto = λ s l. rw (h.each s l) (lowest_le inside E s) }

-- ---- the outputs of a box's actions
