-- Demand 1 holds of our calls.
-- Assumes nothing.
use mathlib.Core.Path.{◌≡◌, refl, sym, ap, ◌∙◌}
use mathlib.Core.Logic.{◌↔◌}
use mathlib.Core.Bool.{Bool, true, false}
use mathlib.Core.List.{List}
use Prim.Native.Nat.{ℕ}
use lib.Dec.{eqb, ltb}
use lib.ListN.{length}
use borrow.Author.Tests.{eqb-true, eq-eqb, ltb-true, lt-ltb, leb-true, le-leb}
use Rattle.laws.specs.Choice.{both, choose}
use Rattle.laws.specs.Range.{tabulate}
use Rattle.laws.proofs.Tests.{by_test, not_both, both_true, both_of, choose_yes, choose_no}
use Rattle.laws.proofs.Range.{every_at, every_of}
use Rattle.std.specs.Prelude.{Result, Ok, Err}
use Rattle.model.specs.Refusal.{number_of, refused_as}
use Rattle.model.specs.declared.refusal.Refusal as named
use Rattle.model.specs.declared.refusal.Refusal.TheVariants as why
use Rattle.model.specs.declared.refusal.Refused.{Refused}
use Rattle.model.specs.Refused.{machine_table_fits}
use Rattle.model.specs.declared.Machine.{Machine}
use Rattle.model.specs.declared.Model.{Model}
use Rattle.model.proofs.Good.{model_table_good, table_good, model_good}
use Rattle.model.specs.Limits.{STATES, NEXT_ENTRIES, OUTPUT_ENTRIES, LIST_ENTRIES}
use Rattle.model.specs.Denoted.{machine_of}
use Rattle.model.specs.Good.{GoodMachine, GoodTable, GoodDrawing}
use Rattle.noninterference.specs.Rounds.{needed_list}
use Rattle.noninterference.specs.Reached.{reached}
use Rattle.needs.specs.Answered as needs
use Rattle.needs.specs.Answered.{found_in, needed_of, list_of}
use Rattle.needs.specs.Listed.{padded}
use Rattle.needs.specs.declared.Needs.{Needs}
use Rattle.model.specs.declared.Kind.{Kind}
use Rattle.purge.specs.Purged.{names_actions, asked, kept_of, Purged, purge_result, written, purged_of}
use Rattle.reach.specs.Set.{of_flags}
use Rattle.reach.specs.declared.Set.{Set}
use Rattle.reach.specs.Explored.{moving}
use Rattle.reach.specs.Answered.{flags_of, answer_of}
use Rattle.views.specs.Judgement.{Judgement, first_broken, lengths_fit, judgement_of}
use Rattle.views.specs.declared.Fault.TheVariants as faults
use Rattle.views.proofs.Sound.{answer_refused}
use Rattle.demands.specs.Refusals.{ThreeTables, TablesAndList, GoodModel, Question, Refusal, ten, twelve, thirteen, TableRefusal, left}

-- ---- an answer y that is chosen by tests of the lengths, of the model and of what is asked; a part of it has a refusal's number and line
module _ {A B lengths good asked : Type 0} {f g h : Bool} {x y : A} (refused : named.Refusal → ℕ → A) (part : A → B)
    (chosen : y ≡ choose f (choose g (choose h x (refused why.Range 0)) (refused why.Rules 0)) (refused why.Length 0))
    (lengths_test : (f ≡ true) ↔ lengths) (good_test : (g ≡ true) ↔ good) (asked_test : (h ≡ true) ↔ asked)
    (never : (n : named.Refusal) (l : ℕ) → part x ≡ part (refused n l) → ⊥)
    (once : (n : named.Refusal) (l : ℕ) (n' : named.Refusal) (l' : ℕ) → part (refused n l) ≡ part (refused n' l') → (n ≡ n') × (l ≡ l')) where
  no_test : {b : Bool} {P : Type 0} → (b ≡ true) ↔ P → ¬ P → b ≡ false
  no_test {b} t k = by_test b (λ e. absurd (k (t.0 e))) (λ e. e)

  not_true : {b : Bool} {P : Type 0} → (b ≡ true) ↔ P → b ≡ false → ¬ P
  not_true t e p = not_both (t.1 p) e

  as_said : {n : named.Refusal} {l : ℕ} → Refusal lengths good asked n l → y ≡ refused n l
  as_said (ten k) = chosen ∙ sym (choose_no _ (no_test lengths_test k) refl)
  as_said (twelve p k) = chosen ∙ sym (choose_yes _ (lengths_test.1 p) (choose_no _ (no_test good_test k) refl))
  as_said (thirteen p q k) = chosen ∙ sym (choose_yes _ (lengths_test.1 p) (choose_yes _ (good_test.1 q) (choose_no _ (no_test asked_test k) refl)))

  moved : {n : named.Refusal} {l : ℕ} {n' : named.Refusal} {l' : ℕ} → part y ≡ part (refused n' l') → Refusal lengths good asked n l → Refusal lengths good asked n' l'
  moved {n} {l} {n'} {l'} e r = let o = once n l n' l' (sym (ap part (as_said r)) ∙ e) in rw (← o.0, ← o.1) r

  only_then : (n : named.Refusal) (l : ℕ) → part y ≡ part (refused n l) → Refusal lengths good asked n l
  only_then n l e =
      by_test f
      (λ a. by_test g
      (λ b. by_test h
      (λ c. absurd (never n l (ap part (choose_yes _ a (choose_yes _ b (choose_yes _ c refl)) ∙ sym chosen) ∙ e)))
      (λ c. moved e (thirteen (lengths_test.0 a) (good_test.0 b) (not_true asked_test c))))
      (λ b. moved e (twelve (lengths_test.0 a) (not_true good_test b))))
      (λ a. moved e (ten (not_true lengths_test a)))

  -- such a part exactly where something is refused, and the whole is then as a refusal is
  pub refused_exactly : ((n : named.Refusal) (l : ℕ) → Refusal lengths good asked n l ↔ (part y ≡ part (refused n l)))
      × ((n : named.Refusal) (l : ℕ) → part y ≡ part (refused n l) → y ≡ refused n l)
  refused_exactly = (λ n l. (λ r. ap part (as_said r), only_then n l), λ n l e. as_said (only_then n l e))

-- a refusal's name and line
parts : {r r' : Refused} → r ≡ r' → (r.refusal ≡ r'.refusal) × (r.line ≡ r'.line)
parts e = (ap (λ r. r.refusal) e, ap (λ r. r.line) e)

pub no_question : (true ≡ true) ↔ Unit {0}
no_question = (λ e. tt, λ u. refl)

pub three_fit : (a b c x y z : ℕ) → (both (eqb a x) (both (eqb b y) (eqb c z)) ≡ true) ↔ ((a ≡ x) × (b ≡ y) × (c ≡ z))
three_fit a b c x y z = (
  λ e. let p = both_true _ _ e in let q = both_true _ _ p.1 in (eqb-true _ _ p.0, eqb-true _ _ q.0, eqb-true _ _ q.1),
  λ h. both_of (eq-eqb _ _ h.0) (both_of (eq-eqb _ _ h.1) (eq-eqb _ _ h.2)),
)

-- ---- the judge
pub judge_lengths : (next outputs views : List ℕ) → (lengths_fit next outputs views ≡ true) ↔ ThreeTables next outputs views
unfolding lengths_fit
judge_lengths next outputs views = three_fit _ _ _ _ _ _

module _ (m : Model) (next outputs views : List ℕ) where
  abbrev unjudged : named.Refusal → ℕ → Judgement
  unjudged n l = Err (faults.Refused (refused_as n l))

  place_never : (n : named.Refusal) (l : ℕ) → first_broken m next outputs views ≡ unjudged n l → ⊥
  unfolding first_broken
  place_never n l e = answer_refused _ (sym e)

  unjudged_once : (n : named.Refusal) (l : ℕ) (n' : named.Refusal) (l' : ℕ) → unjudged n l ≡ unjudged n' l' → (n ≡ n') × (l ≡ l')
  unjudged_once n l n' l' e = let q : refused_as n l ≡ refused_as n' l' = cc in parts q

  pub judge_refused : (n : named.Refusal) (l : ℕ) → TableRefusal (ThreeTables next outputs views) (GoodModel m next) n l ↔ (judgement_of m next outputs views ≡ unjudged n l)
  unfolding judgement_of choose
  judge_refused =
      (refused_exactly {h = true} {x = first_broken m next outputs views} unjudged (λ x. x) refl
      (judge_lengths next outputs views) (model_table_good m next) no_question place_never unjudged_once).0

-- ---- the needed-arrow call: outputs, list and next states are tested in this order
pub needed_lengths : (next outputs list : List ℕ) → (needs.lengths_fit next outputs list ≡ true) ↔ TablesAndList next outputs list
unfolding needs.lengths_fit
needed_lengths next outputs list =
    let t = three_fit (length outputs) (length list) (length next) OUTPUT_ENTRIES LIST_ENTRIES NEXT_ENTRIES in
    (λ e. let h = t.0 e in (h.2, h.0, h.1), λ h. t.1 (h.1, h.2, h.0))

module _ (m : Machine) (next outputs list : List ℕ) where
  abbrev pair : Result Needs Refused → List ℕ → Result Needs Refused × List ℕ
  pair needs written = (needs, written)

  abbrev found : Result Needs Refused × List ℕ
  found = pair (Ok (found_in (machine_of m next outputs))) (padded (needed_list (machine_of m next outputs)))

  abbrev refused : named.Refusal → ℕ → Result Needs Refused × List ℕ
  refused n l = pair (Err (refused_as n l)) (left (number_of n) list)

  abbrev answer : Result Needs Refused × List ℕ → Result Needs Refused
  answer x = x.0

  found_never : (n : named.Refusal) (l : ℕ) → answer found ≡ answer (refused n l) → ⊥
  found_never n l e = cc

  needs_once : (n : named.Refusal) (l : ℕ) (n' : named.Refusal) (l' : ℕ) → answer (refused n l) ≡ answer (refused n' l') → (n ≡ n') × (l ≡ l')
  needs_once n l n' l' e = let q : refused_as n l ≡ refused_as n' l' = cc in parts q

  abbrev answered : Result Needs Refused × List ℕ
  answered = pair (needed_of m next outputs list) (list_of m next outputs list)

  as_chosen : answered
      ≡ choose (needs.lengths_fit next outputs list)
      (choose (machine_table_fits m next) (choose true found (refused why.Range 0)) (refused why.Rules 0)) (refused why.Length 0)
  unfolding needed_of list_of choose left
  as_chosen =
      by_test (needs.lengths_fit next outputs list)
      (λ e. let h = ((needed_lengths next outputs list).0 e).2 in by_test (machine_table_fits m next) (λ f. rw (e, f)) (λ f. rw (e, f, h)))
      (λ e. rw e)

  pub needed_refused : ((n : named.Refusal) (l : ℕ) → TableRefusal (TablesAndList next outputs list) (GoodTable m next) n l ↔ (answer answered ≡ answer (refused n l)))
      × ((n : named.Refusal) (l : ℕ) → answer answered ≡ answer (refused n l) → answered ≡ refused n l)
  needed_refused =
      refused_exactly {h = true} {x = found} {y = answered} refused answer as_chosen
      (needed_lengths next outputs list) (table_good m next) no_question found_never needs_once

-- ---- the reachable states
module _ (m : Machine) (next : List ℕ) where
  abbrev pub reachable : Result Set Refused
  reachable = Ok (of_flags (tabulate STATES λ s. both (ltb s m.sizes.states) (reached (moving m next) s)))

  abbrev pub unreached : named.Refusal → ℕ → Result Set Refused
  unreached n l = Err (refused_as n l)

  reachable_never : (n : named.Refusal) (l : ℕ) → reachable ≡ unreached n l → ⊥
  reachable_never n l e = cc

  unreached_once : (n : named.Refusal) (l : ℕ) (n' : named.Refusal) (l' : ℕ) → unreached n l ≡ unreached n' l' → (n ≡ n') × (l ≡ l')
  unreached_once n l n' l' e = let q : refused_as n l ≡ refused_as n' l' = cc in parts q

  pub reached_chosen : answer_of m next
      ≡ choose (eqb (length next) NEXT_ENTRIES)
      (choose (machine_table_fits m next) (choose true reachable (unreached why.Range 0)) (unreached why.Rules 0)) (unreached why.Length 0)
  unfolding answer_of flags_of choose both
  reached_chosen =
      by_test (eqb (length next) NEXT_ENTRIES)
      (λ e. by_test (machine_table_fits m next) (λ f. rw (e, f)) (λ f. rw (e, f)))
      (λ e. rw e)

  pub reached_refused : (n : named.Refusal) (l : ℕ) → TableRefusal (length next ≡ NEXT_ENTRIES) (GoodTable m next) n l ↔ (answer_of m next ≡ unreached n l)
  reached_refused =
      (refused_exactly {h = true} {x = reachable} {y = answer_of m next} unreached (λ x. x) reached_chosen
      (eqb-true (length next) NEXT_ENTRIES, eq-eqb (length next) NEXT_ENTRIES) (table_good m next) no_question reachable_never unreached_once).0

-- ---- purge
module _ (m : Model) (kind : Kind) (position : ℕ) (run kept : List ℕ) where
  pub question_test : (asked m position run ≡ true) ↔ Question m position run
  unfolding asked names_actions
  question_test = (
    λ e. let a = both_true _ _ e in
        let b = both_true _ _ a.1 in
        record {
          box_in = ltb-true _ _ a.0;
          short = leb-true _ _ b.0;
          named = λ i l. ltb-true _ _ (every_at _ _ b.1 i l);
        },
    λ q. both_of (lt-ltb _ _ q.box_in) (both_of (le-leb _ _ q.short) (every_of _ _ (λ i l. lt-ltb _ _ (q.named i l)))),
  )

  abbrev told : Purged → Result ℕ Refused
  told r = r.answer

  abbrev unpurged : named.Refusal → ℕ → Purged
  unpurged n l = purge_result (Err (refused_as n l)) kept

  kept_never : (n : named.Refusal) (l : ℕ) → told (written (kept_of m kind position run) (length run)) ≡ told (unpurged n l) → ⊥
  kept_never n l e = cc

  unpurged_once : (n : named.Refusal) (l : ℕ) (n' : named.Refusal) (l' : ℕ) → told (unpurged n l) ≡ told (unpurged n' l') → (n ≡ n') × (l ≡ l')
  unpurged_once n l n' l' e = let q : refused_as n l ≡ refused_as n' l' = cc in parts q

  pub purged_refused : ((n : named.Refusal) (l : ℕ) → Refusal (length kept ≡ length run) (GoodMachine m.machine × GoodDrawing m) (Question m position run) n l ↔
      (told (purged_of m kind position run kept) ≡ told (unpurged n l)))
      × ((n : named.Refusal) (l : ℕ) → told (purged_of m kind position run kept) ≡ told (unpurged n l) → purged_of m kind position run kept ≡ unpurged n l)
  unfolding purged_of
  purged_refused =
      refused_exactly {x = written (kept_of m kind position run) (length run)} unpurged told refl
      (eqb-true (length kept) (length run), eq-eqb (length kept) (length run)) (model_good m) question_test kept_never unpurged_once
