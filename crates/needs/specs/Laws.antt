-- The laws that each likeness hands in: what it sorts states by.
-- Assumes nothing.
use Rattle.std.specs.Prelude.{◌≡◌, Bool, true, List, ℕ, zero, suc, ◌<◌, eqb}
use Rattle.std.proofs.Common.{refl, ◌∙◌, arith}
use borrow.Author.Tests.{eq-eqb, eqb-true}
use Rattle.laws.proofs.Tests.{both_of, both_true}
use Rattle.laws.proofs.Range.{every_at, every_of}
use Rattle.model.specs.Limits.{STATES}
use Rattle.needs.specs.Tables.{step_in, entry, Steps}
use Rattle.needs.specs.Classes.{agrees}
use Rattle.needs.specs.Own.{output_in, seen_by, output_slot, no_class}
use Rattle.needs.specs.Sorts.{Sorts}
use Rattle.needs.specs.Starts.{slot_of, next_slot}

pub slot_same : (n : ℕ) (f g : ℕ → ℕ) → ((i : ℕ) → i < n → f i ≡ g i) → slot_of n f ≡ slot_of n g
unfolding slot_of
slot_same zero f g h = refl
slot_same (suc n) f g h = rw (slot_same n f g (λ i l. h i (omega arith)), h n (omega arith))

-- ---- agreement is an equivalence
module _ (step : ℕ → ℕ → ℕ) (actions : ℕ) (c : ℕ → ℕ) where
  pub agrees_now : (t s : ℕ) → agrees step actions c t s ≡ true → c t ≡ c s
  unfolding agrees
  agrees_now t s e = eqb-true _ _ (both_true _ _ e).0

  pub agrees_after : (t s a : ℕ) → a < actions → agrees step actions c t s ≡ true → c (step t a) ≡ c (step s a)
  unfolding agrees
  agrees_after t s a l e = eqb-true _ _ (every_at actions _ (both_true _ _ e).1 a l)

  pub agrees_of : (t s : ℕ) → c t ≡ c s → ((a : ℕ) → a < actions → c (step t a) ≡ c (step s a)) → agrees step actions c t s ≡ true
  unfolding agrees
  agrees_of t s e h = both_of (eq-eqb _ _ e) (every_of actions _ (λ a l. eq-eqb _ _ (h a l)))

  pub agrees_joined : (r t s : ℕ) → agrees step actions c r t ≡ true → agrees step actions c t s ≡ true → agrees step actions c r s ≡ true
  agrees_joined r t s p q =
      agrees_of r s (agrees_now r t p ∙ agrees_now t s q) (λ a l. agrees_after r t a l p ∙ agrees_after t s a l q)

-- states that agree share their small number
pub next_slot_same : (actions : ℕ) (next c : List ℕ) (t s : ℕ) → agrees (step_in actions next) actions (entry c) t s ≡ true →
    next_slot actions next c t ≡ next_slot actions next c s
next_slot_same actions next c t s h = slot_same actions _ _ (λ a l. agrees_after (step_in actions next) actions (entry c) t s a l h)

pub agree_sorts : {states : ℕ} (actions : ℕ) (next c : List ℕ) → Steps states actions next →
    Sorts (agrees (step_in actions next) actions (entry c)) (entry c) (next_slot actions next c) states
agree_sorts actions next c w = record {
  joined = agrees_joined (step_in actions next) actions (entry c);
  of_old = agrees_now (step_in actions next) actions (entry c);
  of_slot = next_slot_same actions next c;
  states_most = w.states_most;
}

-- ---- what two states show alike
module _ (list : List ℕ) (n : ℕ) (outputs : List ℕ) (actions : ℕ) where
  abbrev pub SameBy : ℕ → ℕ → ℕ → Bool
  SameBy t s i = eqb (output_in actions outputs t (entry list i)) (output_in actions outputs s (entry list i))

  pub seen_at : (t s : ℕ) → seen_by list n outputs actions t s ≡ true → (i : ℕ) → i < n →
      output_in actions outputs t (entry list i) ≡ output_in actions outputs s (entry list i)
  unfolding seen_by
  seen_at t s h i l = eqb-true _ _ (every_at n (SameBy t s) h i l)

  pub seen_of : (t s : ℕ) → ((i : ℕ) → i < n → output_in actions outputs t (entry list i) ≡ output_in actions outputs s (entry list i)) →
      seen_by list n outputs actions t s ≡ true
  unfolding seen_by
  seen_of t s h = every_of n (SameBy t s) (λ i l. eq-eqb _ _ (h i l))

  pub seen_joined : (r t s : ℕ) → seen_by list n outputs actions r t ≡ true → seen_by list n outputs actions t s ≡ true →
      seen_by list n outputs actions r s ≡ true
  seen_joined r t s p q = seen_of r s (λ i l. seen_at r t p i l ∙ seen_at t s q i l)

  pub output_slot_same : (t s : ℕ) → seen_by list n outputs actions t s ≡ true →
      output_slot list n outputs actions t ≡ output_slot list n outputs actions s
  output_slot_same t s h = slot_same n _ _ (seen_at t s h)

  -- what the outputs sort states by
  pub seen_sorts : Sorts (seen_by list n outputs actions) no_class (output_slot list n outputs actions) STATES
  seen_sorts = record { joined = seen_joined; of_old = λ t s q. refl; of_slot = λ t s q. output_slot_same t s q; states_most = omega arith }
