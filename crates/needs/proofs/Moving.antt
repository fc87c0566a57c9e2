-- The states that a round took out of the kept part of their class, listed; and whether it changed anything.
-- Assumes nothing.
use mathlib.Core.Path.{◌≡◌, refl, sym, ◌∙◌, ap, subst}
use mathlib.Core.Logic.{◌≢◌, ⊎_elim}
use mathlib.Core.Bool.{Bool, true, false}
use mathlib.Core.List.{List}
use Prim.Native.Nat.{ℕ, ◌+◌, ◌*◌, ◌<◌, ◌≤◌}
use native.Mathlib.Nat.{not-suc-le-zero}
use native.Mathlib.Numerals.{add-one}
use native.Mathlib.Omega.{arith}
use borrow.Author.Count.{below_more}
use borrow.Author.Tests.{eq-eqb, eqb-true, lt-ltb, le-ltb, ltb-true, ltb-false}
use lib.Dec.{eqb, ltb}
use lib.ListN.{length, set}
use lib.Seq.{get_or-set_same, get_or-set_other}
use Rattle.laws.specs.Choice.{both, brings, choose}
use Rattle.laws.specs.Range.{every}
use Rattle.laws.proofs.Tests.{by_test, brings_of, brings_at, either_false, choose_yes, choose_no}
use Rattle.laws.proofs.Loops.{both_not}
use Rattle.laws.proofs.Range.{every_at, every_same}
use Rattle.model.specs.Limits.{STATES}
use Rattle.reach.specs.Set.{flag_at}
use Rattle.needs.specs.Tables.{step_in, entry}
use Rattle.needs.specs.Classes.{agrees, unchanged, Below, Led}
use Rattle.needs.specs.Again.{Merged, Places, On, Longer, Stayed, Covered, Leads, kept_number, MovedTo}
use Rattle.needs.proofs.Looking.{one_of}

-- ---- a list goes on
pub longer_same : {list : List ℕ} {n : ℕ} → Places list n → Longer list list n n
longer_same p = record { places = p; more = omega arith; stays = λ l x o. o }

module _ {list : List ℕ} {n : ℕ} (h : Places list n) (l : n < STATES) where
  written : (x : ℕ) → entry (set list n x) n ≡ x
  written x = get_or-set_same list n x 0 (omega (arith, h.long))

  unwritten : (x i : ℕ) → i < n → entry (set list n x) i ≡ entry list i
  unwritten x i q = get_or-set_other list n i x 0 (λ e. absurd (omega arith))

-- ---- the states that have their old class number again are put on it
module _ {c d : List ℕ} {old : ℕ} where
  module _ {list : List ℕ} {n t : ℕ} (h : Stayed c d list n old t) where
    pub stayed_skip : (entry c t ≡ old → entry d t ≡ old → ⊥) → Stayed c d list n old (t + 1)
    stayed_skip k = record {
      listed = λ l x p q. below_more (λ x. old ≤ x → entry c x ≡ old → entry d x ≡ old → On list n x) t
          (λ x q p. h.listed l x p q) (λ p e z. absurd (k e z)) x q p;
    }

    pub stayed_more : {list' : List ℕ} {n' : ℕ} → Longer list list' n n' → (n' < STATES → On list' n' t) → Stayed c d list' n' old (t + 1)
    stayed_more {list'} {n'} g o = record {
      listed = λ l x p q. below_more (λ x. old ≤ x → entry c x ≡ old → entry d x ≡ old → On list' n' x) t
          (λ x q p e z. g.stays l x (h.listed (omega (arith, g.more)) x p q e z)) (λ p e z. o l) x q p;
    }

    pub stayed_all : (s : ℕ) → s ≤ t → Stayed c d list n old s
    stayed_all s m = record { listed = λ l x p q. h.listed l x p (omega arith) }

-- ---- the number of the kept part
pub kept_known : (lead : List ℕ) (i : ℕ) {k : ℕ} → k ≡ entry lead i → k < STATES → k ≡ kept_number lead i
unfolding kept_number
kept_known lead i e l = choose_yes i (lt-ltb (entry lead i) STATES (omega arith)) e

pub kept_old : (lead : List ℕ) (i : ℕ) {k : ℕ} → k ≡ entry lead i → STATES ≤ k → i ≡ kept_number lead i
unfolding kept_number
kept_old lead i e l = choose_no (entry lead i) (le-ltb (entry lead i) STATES (omega arith)) refl

kept_other : (lead : List ℕ) (i j v : ℕ) → j ≢ i → kept_number (set lead i v) j ≡ kept_number lead j
unfolding kept_number
kept_other lead i j v n = ap (λ x. choose (ltb x STATES) x j) (get_or-set_other lead i j v 0 n)

-- a state that leads its old class is the first to have its number
pub kept_first : {states actions : ℕ} {next c lead : List ℕ} {inside marks : List Bool} {s : ℕ} → Below states c → Leads actions next c lead inside marks s →
    states ≤ STATES → s < states → s ≡ kept_number lead s
kept_first {lead = lead} {s = s} w h m l =
    by_test (ltb (entry lead s) STATES)
    (λ e. let q = h.known s (omega arith) (ltb-true (entry lead s) STATES e) in absurd (omega (arith, q.below, q.class, w.upto q.at (omega (arith, q.below)))))
    (λ e. kept_old lead s refl (ltb-false (entry lead s) STATES e))

-- ---- the list is filled while the numbers are
pub moved_none : {c d lead list : List ℕ} {n : ℕ} → Places list n → MovedTo 0 c d lead list n
moved_none p = record { places = p; listed = λ l x q. absurd (not-suc-le-zero q) }

module _ {c d lead list : List ℕ} {s n : ℕ} (h : MovedTo s c d lead list n) (p : s < length d) (v : ℕ) where
  earlier : (x : ℕ) → x < s → entry (set d s v) x ≡ entry d x
  earlier x l = get_or-set_other d s x v 0 (λ q. absurd (omega arith))

  here : entry (set d s v) s ≡ v
  here = get_or-set_same d s v 0 p

  pub moved_more : {list' : List ℕ} {n' : ℕ} → Longer list list' n n' → (n' < STATES → v ≢ kept_number lead (entry c s) → On list' n' s) →
      MovedTo (s + 1) c (set d s v) lead list' n'
  moved_more {list'} {n'} g f = record {
    places = g.places;
    listed = λ l. below_more (λ x. entry (set d s v) x ≢ kept_number lead (entry c x) → On list' n' x) s
        (λ x q k. g.stays l x (h.listed (omega (arith, g.more)) x q (λ e. k (earlier x q ∙ e)))) (λ k. f l (λ e. k (here ∙ e)));
  }

  pub moved_kept : v ≡ kept_number lead (entry c s) → MovedTo (s + 1) c (set d s v) lead list n
  moved_kept e = moved_more (longer_same h.places) (λ l k. absurd (k e))

  -- s speaks for its class, whose kept part had the old number so far
  pub moved_put : {states old : ℕ} {list' : List ℕ} {n' : ℕ} → Below states c → s < states → old ≡ entry c s → old < length lead → STATES ≤ entry lead (entry c s) →
      v < STATES → Longer list list' n n' → (v ≢ old → Stayed c (set d s v) list' n' old s) → MovedTo (s + 1) c (set d s v) (set lead old v) list' n'
  moved_put {states} {old} {list'} {n'} w ls eo lo free lv g f = record {
    places = g.places;
    listed = λ l. below_more (λ x. entry (set d s v) x ≢ kept_number (set lead old v) (entry c x) → On list' n' x) s (before l)
        (λ k. absurd (k (here ∙ put ∙ ap (kept_number (set lead old v)) eo)));
  }
    where
      open_yet : STATES ≤ entry lead old
      open_yet = subst (λ i. STATES ≤ entry lead i) (sym eo) free

      put : v ≡ kept_number (set lead old v) old
      put = kept_known (set lead old v) old (sym (get_or-set_same lead old v 0 lo)) lv

      before : n' < STATES → (x : ℕ) → x < s → entry (set d s v) x ≢ kept_number (set lead old v) (entry c x) → On list' n' x
      before l x q k =
          ⊎_elim
          (λ (e : entry c x ≡ old). ⊎_elim
          (λ (z : entry d x ≡ old). (f (λ y. k (earlier x q ∙ z ∙ sym y ∙ put ∙ ap (kept_number (set lead old v)) (sym e)))
          ).listed l x (omega (arith, w.upto x (omega arith))) q e (earlier x q ∙ z))
          (λ (z : entry d x ≢ old). g.stays l x (h.listed (omega (arith, g.more)) x q (λ y. z (y ∙ ap (kept_number lead) e ∙ sym (kept_old lead old refl open_yet)))))
          (one_of (entry d x) old (eqb (entry d x) old) refl))
          (λ (e : entry c x ≢ old). g.stays l x (h.listed (omega (arith, g.more)) x q
          (λ y. k (earlier x q ∙ y ∙ sym (kept_other lead old (entry c x) v e)))))
          (one_of (entry c x) old (eqb (entry c x) old) refl)

-- ---- whether no state that counts has another number
pub both_still : (b : Bool) {x : Bool} → x ≡ true → b ≡ both b x
unfolding both
both_still true e = sym e
both_still false e = refl

pub record Same (inside : List Bool) (c d : List ℕ) (s : ℕ) (b : Bool) : Type 0 where
  pub told : b ≡ unchanged s (flag_at inside) (entry c) (entry d)

pub same_none : {inside : List Bool} {c d : List ℕ} → Same inside c d 0 true
unfolding unchanged every
same_none = record { told = refl }

module _ {inside : List Bool} {E : ℕ → ℕ → Bool} {c d : List ℕ} {s : ℕ} {b : Bool} (w : Led (flag_at inside) E d s) (h : Same inside c d s b) where
  pub same_more : {d' : List ℕ} {r : Bool} → Led (flag_at inside) E d' (s + 1) → r ≡ both b (brings (flag_at inside s) (eqb (entry c s) (entry d' s))) →
      Same inside c d' (s + 1) r
  unfolding unchanged every
  same_more {d'} {r} w' e = record {
    told = rw (add-one s)
        (e ∙ ap (λ x. both x (brings (flag_at inside s) (eqb (entry c s) (entry d' s))))
        (h.told ∙ every_same s _ _ (λ x l. ap (λ y. brings (flag_at inside x) (eqb (entry c x) y)) (w.each x l ∙ sym (w'.each x (omega arith))))));
  }

  pub same_kept : {v : ℕ} → Led (flag_at inside) E (set d s v) (s + 1) → s < STATES → (b ≡ true → entry c s ≡ v) → Same inside c (set d s v) (s + 1) b
  same_kept {v} w' l k =
      same_more w'
      (by_test b
      (λ e. both_still b (brings_of (flag_at inside s) (λ i. eq-eqb _ _ (k e ∙ sym (get_or-set_same d s v 0 (omega (arith, w.long)))))))
      (λ e. e ∙ sym (both_not _ e)))

-- a class has its old number again where its unmarked state that counts has
pub same_lead : {actions : ℕ} {next c lead d : List ℕ} {inside marks : List Bool} {s i k : ℕ} {b : Bool} →
    Led (flag_at inside) (agrees (step_in actions next) actions (entry c)) d s → Leads actions next c lead inside marks s →
    Same inside c d s b → i < STATES → k ≡ entry lead i → k < STATES → b ≡ true → i ≡ k
unfolding unchanged
same_lead {c = c} {d = d} {inside = inside} {s = s} {i = i} w h e l ek lk t =
    let q = h.known i l (omega arith) in
    sym q.class ∙ eqb-true (entry c q.at) (entry d q.at) (brings_at (flag_at inside q.at) _ (every_at s _ (sym e.told ∙ t) q.at q.below) q.counts)
    ∙ w.each q.at q.below ∙ sym q.number ∙ sym ek

-- ---- the rows of the states listed are added
module _ {before : List Bool} {list : List ℕ} {marks : List Bool} where
  module _ {n : ℕ} (h : Covered before list marks n) where
    pub covered_more : {marks' : List Bool} {x : ℕ} → x ≡ entry list n → Merged before marks marks' x → Covered before list marks' (n + 1)
    covered_more {marks'} {x} e m = record {
      long = m.long;
      seen = λ i s l. below_more (λ i. s < STATES → flag_at marks' s ≡ false → flag_at before (entry list i * STATES + s) ≡ false) n
          (λ i l p z. h.seen i s l p (either_false _ _ (sym (m.each s p) ∙ z)).0)
          (λ p z. subst (λ y. flag_at before (y * STATES + s) ≡ false) e (either_false _ _ (sym (m.each s p) ∙ z)).1) i l;
    }

    pub covered_all : (count : ℕ) → n ≤ count → count ≤ n → Covered before list marks count
    covered_all count l m = let q : n ≡ count = omega arith in subst (λ j. Covered before list marks j) q h
