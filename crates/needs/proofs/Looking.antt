-- A round need not look at a state whose next states are all in kept parts: it agrees again with whom it agreed with.
-- Assumes nothing.
use mathlib.Core.Path.{◌≡◌, refl, sym, ◌∙◌, ap, subst}
use mathlib.Core.Logic.{◌⊎◌, inl, inr, ⊎_elim, ◌≢◌}
use mathlib.Core.Bool.{Bool, true, false}
use mathlib.Core.List.{List}
use Prim.Native.Nat.{ℕ, ◌+◌, ◌*◌, ◌<◌, ◌≤◌}
use native.Mathlib.Nat.{eq-or-lt_of_le, not-suc-le-zero}
use native.Mathlib.Omega.{arith}
use borrow.Author.Count.{below_more}
use borrow.Author.Tests.{eqb-true, eqb-false}
use lib.Dec.{eqb}
use lib.ListN.{length, set, length-set, replicate, length-replicate, get_or-replicate}
use lib.Seq.{get_or-set_same, get_or-set_other}
use Rattle.laws.specs.Choice.{either}
use Rattle.laws.proofs.Tests.{not_both, either_false}
use Rattle.model.specs.Limits.{STATES}
use Rattle.reach.specs.Set.{flag_at}
use Rattle.laws.proofs.Tables.{set_true, set_stays}
use Rattle.needs.specs.Tables.{step_in, entry, Steps}
use Rattle.needs.specs.Classes.{lowest, agrees, Led}
use Rattle.needs.specs.Again.{Befores, Merged, Touched, Quiet, LeadAt, Leads}
use Rattle.needs.proofs.Classes.{lowest_le, lowest_holds, lowest_least, lowest_case}
use Rattle.needs.specs.Laws.{agrees_now, agrees_after, agrees_of, agrees_joined}

pub one_of : (a b : ℕ) (t : Bool) → eqb a b ≡ t → (a ≡ b) ⊎ (a ≢ b)
one_of a b true e = inl (eqb-true a b e)
one_of a b false e = inr (eqb-false a b e)

-- ---- agreement
module _ (step : ℕ → ℕ → ℕ) (actions : ℕ) (c : ℕ → ℕ) where
  agrees_turned : (t s : ℕ) → agrees step actions c t s ≡ true → agrees step actions c s t ≡ true
  agrees_turned t s h = agrees_of step actions c s t (sym (agrees_now step actions c t s h)) (λ a l. sym (agrees_after step actions c t s a l h))

  -- the first of the next class agrees
  lowest_agrees : (inside : ℕ → Bool) (s x : ℕ) → x ≡ lowest inside (agrees step actions c) s → agrees step actions c x s ≡ true
  lowest_agrees inside s x e =
      subst (λ y. agrees step actions c y s ≡ true) (sym e)
      (lowest_case inside (agrees step actions c) (λ y. agrees step actions c y s ≡ true) s (agrees_of step actions c s s refl (λ a l. refl)) (λ t j h. h))

  -- states that agree have one next class
  lowest_agreed : (inside : ℕ → Bool) (q s : ℕ) → q < s → inside q ≡ true → agrees step actions c q s ≡ true →
      lowest inside (agrees step actions c) s ≡ lowest inside (agrees step actions c) q
  lowest_agreed inside q s l i h =
      let low : lowest inside E s ≤ q = lowest_least inside E s q l i h in
      let up : lowest inside E q ≤ lowest inside E s =
      ⊎_elim
      (λ (e : lowest inside E s ≡ q). let k = lowest_le inside E q in omega arith)
      (λ (p : lowest inside E s < q). let v = lowest_holds inside E s (omega arith) in
      lowest_least inside E q (lowest inside E s) p v.0 (agrees_joined step actions c (lowest inside E s) s q v.1 (agrees_turned q s h)))
      (eq-or-lt_of_le low) in
      let down : lowest inside E s ≤ lowest inside E q =
      ⊎_elim
      (λ (e : lowest inside E q ≡ q). omega arith)
      (λ (p : lowest inside E q < q). let v = lowest_holds inside E q p in
      lowest_least inside E s (lowest inside E q) (omega arith) v.0 (agrees_joined step actions c (lowest inside E q) q s v.1 h))
      (eq-or-lt_of_le (lowest_le inside E q)) in
      omega arith
    where
      E : ℕ → ℕ → Bool
      E = agrees step actions c

-- ---- nothing is marked to be passed over, at first; and after a round what its marks say
pub quiet_none : {states actions : ℕ} {next c : List ℕ} → states ≤ STATES → Quiet states actions next c (replicate STATES true)
quiet_none m = record { agree = λ s t ls lt ms mt e. not_both (get_or-replicate {A = Bool} STATES s true false (omega arith)) ms }

pub quiet_next : {states actions : ℕ} {next c d : List ℕ} {marks : List Bool} (inside : ℕ → Bool) →
    Led inside (agrees (step_in actions next) actions (entry c)) d states → Touched states actions next c d marks → Quiet states actions next d marks
quiet_next {states} {actions} {next} {c} {d} inside dd h = record {
  agree = λ s t ls lt ms mt e.
      let a = lowest_agrees step actions (entry c) inside s (entry d s) (dd.each s ls) in
      let b = lowest_agrees step actions (entry c) inside t (entry d s) (e ∙ dd.each t lt) in
      let k = agrees_joined step actions (entry c) s (entry d s) t (agrees_turned step actions (entry c) (entry d s) s a) b in
      agrees_of step actions (entry d) s t e (λ x l. h.kept s t x ls lt l ms mt (agrees_after step actions (entry c) s t x l k));
}
  where
    step : ℕ → ℕ → ℕ
    step = step_in actions next

-- ---- the first class number of unmarked states is kept for the later ones
module _ {actions : ℕ} {next c : List ℕ} {inside marks : List Bool} where
  pub leads_none : Leads actions next c (replicate STATES STATES) inside marks 0
  leads_none = record {
    long = length-replicate {A = ℕ} STATES STATES;
    known = λ i l k. let e = get_or-replicate {A = ℕ} STATES i STATES 0 l in absurd (omega arith);
  }

  later : {i l n : ℕ} → LeadAt actions next c inside marks i l n → LeadAt actions next c inside marks i l (n + 1)
  later q = record { at = q.at; below = omega (arith, q.below); unmarked = q.unmarked; counts = q.counts; class = q.class; number = q.number }

  pub leads_keep : {lead : List ℕ} {n : ℕ} → Leads actions next c lead inside marks n → Leads actions next c lead inside marks (n + 1)
  leads_keep h = record { long = h.long; known = λ i l k. later (h.known i l k) }

  pub lead_before : {lead : List ℕ} {s i k : ℕ} → Leads actions next c lead inside marks s → i < STATES → k ≡ entry lead i → k < STATES → k < s
  lead_before {lead} {s} {i} {k} h li ek lk =
      let q = h.known i li (omega arith) in
      let m = lowest_le (flag_at inside) (agrees (step_in actions next) actions (entry c)) q.at in omega (arith, q.below, q.number)

  pub lead_next : {lead : List ℕ} {states s i k : ℕ} → Quiet states actions next c marks → Leads actions next c lead inside marks s → s < states →
      i < STATES → i ≡ entry c s → flag_at marks s ≡ false → k ≡ entry lead i → k < STATES →
      k ≡ lowest (flag_at inside) (agrees (step_in actions next) actions (entry c)) s
  lead_next {lead} {states} {s} {i} {k} w h l li ei z ek lk =
      let q = h.known i li (omega arith) in
      ek ∙ q.number
      ∙ sym (lowest_agreed (step_in actions next) actions (entry c) (flag_at inside) q.at s q.below q.counts
      (w.agree q.at s (omega (arith, q.below)) l q.unmarked z (q.class ∙ ei)))

-- ---- the states before each state
pub record BeforesTo (actions : ℕ) (next : List ℕ) (before : List Bool) (s a : ℕ) : Type 0 where
  pub long : length before ≡ STATES * STATES
  pub rows : (t e : ℕ) → t < s → e < actions → flag_at before (step_in actions next t e * STATES + t) ≡ true
  pub row : (e : ℕ) → e < a → flag_at before (step_in actions next s e * STATES + s) ≡ true

module _ {actions : ℕ} {next : List ℕ} {before : List Bool} where
  module _ {s a : ℕ} (h : BeforesTo actions next before s a) where
    pub befores_more : {x : ℕ} → x ≡ step_in actions next s a → x < STATES → s < STATES → BeforesTo actions next (set before (x * STATES + s) true) s (a + 1)
    befores_more {x} e lx ls =
        let fits : x * STATES + s < length before = omega (arith, h.long) in
        record {
          long = length-set before (x * STATES + s) true ∙ h.long;
          rows = λ t y p q. set_stays before (x * STATES + s) (step_in actions next t y * STATES + t) fits (h.rows t y p q);
          row = below_more (λ y. flag_at (set before (x * STATES + s) true) (step_in actions next s y * STATES + s) ≡ true) a
              (λ y p. set_stays before (x * STATES + s) (step_in actions next s y * STATES + s) fits (h.row y p))
              (subst (λ k. flag_at (set before (x * STATES + s) true) (k * STATES + s) ≡ true) e (set_true before (x * STATES + s) fits));
        }

    pub befores_row : actions ≤ a → BeforesTo actions next before (s + 1) 0
    befores_row l = record {
      long = h.long;
      rows = λ t e p q. below_more (λ t. (e : ℕ) → e < actions → flag_at before (step_in actions next t e * STATES + t) ≡ true) s
          (λ t p e q. h.rows t e p q) (λ e q. h.row e (omega arith)) t p e q;
      row = λ e p. absurd (not-suc-le-zero p);
    }

    pub befores_all : (states : ℕ) → states ≤ s → Befores states actions next before
    befores_all states l = record { marked = λ t y p q. h.rows t y (omega arith) q }

-- ---- one row is added to the marks
pub record MergedTo (before marks marks' : List Bool) (x n : ℕ) : Type 0 where
  pub long : length marks' ≡ STATES
  pub each : (s : ℕ) → s < n → flag_at marks' s ≡ either (flag_at marks s) (flag_at before (x * STATES + s))
  pub rest : (s : ℕ) → n ≤ s → flag_at marks' s ≡ flag_at marks s

module _ {before marks : List Bool} {x : ℕ} where
  module _ {marks' : List Bool} {n : ℕ} (h : MergedTo before marks marks' x n) where
    pub merged_more : {b : Bool} → n < STATES → b ≡ either (flag_at marks' n) (flag_at before (x * STATES + n)) → MergedTo before marks (set marks' n b) x (n + 1)
    merged_more {b} l e = record {
      long = length-set marks' n b ∙ h.long;
      each = below_more (λ s. flag_at (set marks' n b) s ≡ either (flag_at marks s) (flag_at before (x * STATES + s))) n
          (λ s p. get_or-set_other marks' n s b false (λ q. absurd (omega arith)) ∙ h.each s p)
          (get_or-set_same marks' n b false (omega (arith, h.long)) ∙ e ∙ ap (λ y. either y (flag_at before (x * STATES + n))) (h.rest n (omega arith)));
      rest = λ s p. get_or-set_other marks' n s b false (λ q. absurd (omega arith)) ∙ h.rest s (omega arith);
    }

    pub merged_all : STATES ≤ n → Merged before marks marks' x
    merged_all l = record { long = h.long; each = λ s p. h.each s (omega arith) }

-- ---- the states with a next state outside the kept parts
pub record TouchedTo (before : List Bool) (c d keep : List ℕ) (marks : List Bool) (n : ℕ) : Type 0 where
  pub long : length marks ≡ STATES
  pub seen : (y s : ℕ) → y < n → s < STATES → flag_at marks s ≡ false → (entry d y ≡ entry keep (entry c y) → ⊥) → flag_at before (y * STATES + s) ≡ false

module _ {before : List Bool} {c d keep : List ℕ} {marks : List Bool} where
  module _ {n : ℕ} (h : TouchedTo before c d keep marks n) where
    pub touched_skip : {i : ℕ} → i ≡ entry c n → entry d n ≡ entry keep i → TouchedTo before c d keep marks (n + 1)
    touched_skip ei e = record {
      long = h.long;
      seen = λ y s l. below_more (λ y. s < STATES → flag_at marks s ≡ false → (entry d y ≡ entry keep (entry c y) → ⊥) → flag_at before (y * STATES + s) ≡ false) n
          (λ y l. h.seen y s l) (λ p z k. absurd (k (e ∙ ap (entry keep) ei))) y l;
    }

    pub touched_merge : {marks' : List Bool} → Merged before marks marks' n → TouchedTo before c d keep marks' (n + 1)
    touched_merge {marks'} m = record {
      long = m.long;
      seen = λ y s l. below_more (λ y. s < STATES → flag_at marks' s ≡ false → (entry d y ≡ entry keep (entry c y) → ⊥) → flag_at before (y * STATES + s) ≡ false) n
          (λ y l p z. h.seen y s l p (either_false _ _ (sym (m.each s p) ∙ z)).0) (λ p z k. (either_false _ _ (sym (m.each s p) ∙ z)).1) y l;
    }

    pub touched_all : {states actions : ℕ} {next : List ℕ} → Steps states actions next → Befores states actions next before → states ≤ n →
        Touched states actions next c d marks
    touched_all {states} {actions} {next} w b l = record {
      kept = λ s t a ps pt q zs zt e. part s a ps q zs ∙ ap (entry keep) e ∙ sym (part t a pt q zt);
    }
      where
        part : (s a : ℕ) → s < states → a < actions → flag_at marks s ≡ false → entry d (step_in actions next s a) ≡ entry keep (entry c (step_in actions next s a))
        part s a p q z =
            ⊎_elim
            (λ (e : entry d (step_in actions next s a) ≡ entry keep (entry c (step_in actions next s a))). e)
            (λ (e : entry d (step_in actions next s a) ≢ entry keep (entry c (step_in actions next s a))).
            let k = w.next_in s a p q in
            let m = w.states_most in
            not_both (b.marked s a p q) (h.seen (step_in actions next s a) s (omega arith) (omega arith) z e))
            (one_of (entry d (step_in actions next s a)) (entry keep (entry c (step_in actions next s a)))
            (eqb (entry d (step_in actions next s a)) (entry keep (entry c (step_in actions next s a)))) refl)
