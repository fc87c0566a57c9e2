-- What is answered: the flags of a worklist that is done are those of the definition, and a refused call's are empty.
-- Assumes nothing.
use mathlib.Core.Path.{◌≡◌, refl, sym, ◌∙◌, ap}
use mathlib.Core.Logic.{◌↔◌}
use mathlib.Core.Bool.{Bool, true, false}
use mathlib.Core.List.{List, []}
use Prim.Native.Nat.{ℕ, zero, suc, ◌<◌, ◌≤◌}
use native.Mathlib.Omega.{arith}
use borrow.Author.Tests.{eq-eqb, ne_eqb, lt-ltb, ltb-true, ltb-false}
use lib.Dec.{eqb, ltb}
use lib.ListN.{length}
use Rattle.laws.specs.Choice.{both, either, choose}
use Rattle.laws.specs.Range.{some}
use Rattle.laws.proofs.Tests.{by_test, not_both, agree, both_of, both_true}
use Rattle.laws.proofs.Cells.{beyond}
use Rattle.noninterference.specs.Machine.{Reachable}
use Rattle.noninterference.specs.Reached.{reached_by, reached, Reach}
use Rattle.noninterference.proofs.Reached.{reach}
use Rattle.model.specs.Limits.{STATES, NEXT_ENTRIES}
use Rattle.model.specs.Denoted.{machine_of, next_at}
use Rattle.model.specs.Refused.{machine_table_fits}
use Rattle.model.specs.Refusal.{refused_as}
use Rattle.model.specs.declared.Machine.{Machine}
use Rattle.model.specs.declared.refusal.Refusal.TheVariants.{Length, Rules}
use Rattle.std.specs.Prelude.{Ok, Err}
use Rattle.model.proofs.Good.{table_good}
use Rattle.model.proofs.Denoted.{closed}
use Rattle.reach.specs.Set.{listed, flag_at}
use Rattle.reach.specs.Explored.{moving, Complete}
use Rattle.reach.specs.Answered.{flags_of, set_of, answer_of}
use Rattle.reach.specs.declared.Set.{Set}
use Rattle.laws.proofs.Tables.{tabulated, tabulate_at, length_tabulate}

-- no two sets list the same flags
pub listed_injective : (a b : Set) → listed a ≡ listed b → a ≡ b
listed_injective a b e = λ i. record { flags = e i }

length_flags : (m : Machine) (next : List ℕ) → length (flags_of m next) ≡ STATES
unfolding flags_of
length_flags m next = length_tabulate STATES _

module _ (m : Machine) (next : List ℕ) where
  -- the length is wrong; it is right and the rules are broken; neither
  pub refused_length : (length next ≡ NEXT_ENTRIES → ⊥) → Err (refused_as Length 0) ≡ answer_of m next
  unfolding answer_of choose
  refused_length n = rw (ne_eqb _ _ n)

  pub refused_rules : length next ≡ NEXT_ENTRIES → machine_table_fits m next ≡ false → Err (refused_as Rules 0) ≡ answer_of m next
  unfolding answer_of choose
  refused_rules e f = rw (eq-eqb _ _ e, f)

  pub found : length next ≡ NEXT_ENTRIES → machine_table_fits m next ≡ true → Ok (set_of m next) ≡ answer_of m next
  unfolding answer_of choose
  found e f = rw (eq-eqb _ _ e, f)

  flags_found : {flags : List Bool} → length next ≡ NEXT_ENTRIES → machine_table_fits m next ≡ true → Complete m next flags → flags ≡ flags_of m next
  unfolding flags_of
  flags_found {flags} e f w = tabulated false STATES _ flags w.long (λ s l. agree _ _ (there s) (back s))
    where
      r : Reach (moving m next) (reached (moving m next))
      r = reach (moving m next) (closed m next [] ((table_good m next).0 f))

      there : (s : ℕ) → flag_at flags s ≡ true →
          both (both (eqb (length next) NEXT_ENTRIES) (machine_table_fits m next)) (both (ltb s m.sizes.states) (reached (moving m next) s)) ≡ true
      there s h =
          let l = w.inside s h in
          both_of (both_of (eq-eqb _ _ e) f) (both_of (lt-ltb _ _ l) (r.all s (w.reach.right s l h)))

      back : (s : ℕ) → both (both (eqb (length next) NEXT_ENTRIES) (machine_table_fits m next)) (both (ltb s m.sizes.states) (reached (moving m next) s)) ≡ true →
          flag_at flags s ≡ true
      back s h =
          let p = both_true _ _ (both_true _ _ h).1 in
          w.reach.all s (r.right s (ltb-true _ _ p.0) p.1)

  pub found_set : (set : Set) → length next ≡ NEXT_ENTRIES → machine_table_fits m next ≡ true → Complete m next (listed set) → Ok set ≡ answer_of m next
  found_set set e f w = ap Ok (listed_injective set (set_of m next) (flags_found e f w)) ∙ found e f

-- ---- what the flags say
-- outputs have no say in what is reached
reached_by_same : (m : Machine) (next outputs : List ℕ) (k : ℕ) → reached_by (moving m next) k ≡ reached_by (machine_of m next outputs) k
unfolding reached_by
reached_by_same m next outputs zero = refl
reached_by_same m next outputs (suc k) =
    ap {B = ℕ → Bool} (λ (f : ℕ → Bool). λ (s : ℕ). either (f s) (some m.sizes.states λ t. both (f t) (some m.sizes.actions λ a. eqb (next_at m next t a) s))) (reached_by_same m next outputs k)

reached_same : (m : Machine) (next outputs : List ℕ) (s : ℕ) → reached (moving m next) s ≡ reached (machine_of m next outputs) s
unfolding reached
reached_same m next outputs s = ap (λ (f : ℕ → Bool). f s) (reached_by_same m next outputs m.sizes.states)

module _ (m : Machine) (next outputs : List ℕ) (e : length next ≡ NEXT_ENTRIES) (f : machine_table_fits m next ≡ true) where
  flag_says : (s : ℕ) → s < STATES → flag_at (flags_of m next) s ≡ both (ltb s m.sizes.states) (reached (machine_of m next outputs) s)
  unfolding flags_of both
  flag_says s l =
      tabulate_at STATES _ s false l ∙ rw (eq-eqb _ _ e, f, reached_same m next outputs s)

  pub flags_small : (s : ℕ) → flag_at (flags_of m next) s ≡ true → s < m.sizes.states
  flags_small s h =
      by_test (ltb s STATES)
      (λ l. ltb-true _ _ (both_true _ _ (sym (flag_says s (ltb-true _ _ l)) ∙ h)).0)
      (λ l. not_both h (sym (beyond (flags_of m next) s false (rw flags_long (ltb-false _ _ l)))))
    where
      flags_long : length (flags_of m next) ≡ STATES
      flags_long = length_flags m next

  -- a state is in the set exactly where some run from the start ends in it
  pub flags_reach : Reach (machine_of m next outputs) (flag_at (flags_of m next))
  flags_reach = record {
    right = λ s l h. r.right s l (both_true _ _ (sym (flag_says s (omega (arith, most))) ∙ h)).1;
    all = λ s h. let l : s < m.sizes.states = r.small s h in
        flag_says s (omega (arith, most)) ∙ both_of (lt-ltb _ _ l) (r.all s h);
    small = r.small;
  }
    where
      r : Reach (machine_of m next outputs) (reached (machine_of m next outputs))
      r = reach (machine_of m next outputs) (closed m next outputs ((table_good m next).0 f))

      most : m.sizes.states ≤ STATES
      most = ((table_good m next).0 f).machine.sizes.states_most

  pub flags_say : (s : ℕ) → (flag_at (flags_of m next) s ≡ true) ↔ Reachable (machine_of m next outputs) s
  flags_say s = (λ h. flags_reach.right s (flags_small s h) h, flags_reach.all s)
