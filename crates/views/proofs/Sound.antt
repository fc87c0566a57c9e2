-- What the judge's answer says (demand 2): views are accepted exactly when output, respect and step hold for every state of the table; a place
-- that is named is broken, and none before it is; and where views are accepted the machine is secure.
-- Assumes nothing.
use mathlib.Core.Path.{◌≡◌, refl, sym, ap, ◌∙◌}
use mathlib.Core.Logic.{◌↔◌, ◌⊎◌, inl, inr}
use mathlib.Core.Bool.{true, false}
use mathlib.Core.List.{List}
use mathlib.Core.Option.{Option, none, some}
use Prim.Native.Nat.{ℕ, ◌<◌}
use Rattle.laws.proofs.Tests.{by_test, choose_yes, choose_no}
use Rattle.noninterference.specs.Machine as noninterference
use Rattle.noninterference.specs.Purge.{intransitive}
use Rattle.noninterference.specs.Secure.{Secure}
use Rattle.noninterference.specs.Conditions.{States, ByView, Conditions}
use Rattle.noninterference.specs.Place.{Place, output, respect, step, FirstBroken, OfAny}
use Rattle.noninterference.specs.Judged.{judged}
use Rattle.noninterference.proofs.Judged as searches
use Rattle.noninterference.proofs.Judged.{first_broken_lem}
use Rattle.noninterference.proofs.Unwinding.{unwinding, by_view}
use Rattle.model.specs.Denoted.{machine_of, policy_of, view_of}
use Rattle.model.specs.Refused.{model_table_fits}
use Rattle.model.specs.declared.Model.{Model}
use Rattle.model.proofs.Good.{model_table_good}
use Rattle.model.proofs.Denoted.{owned, closed}
use Rattle.std.specs.Prelude.{Ok, Err}
use Rattle.model.specs.Refusal.{refused_as}
use Rattle.model.specs.declared.refusal.Refusal.TheVariants.{Length, Rules}
use Rattle.model.specs.declared.refusal.Refused as refusals
use Rattle.views.specs.Judgement.{Judgement, accepted, answer, every_state, lengths_fit, first_broken, judgement_of}
use Rattle.views.specs.declared.Fault.TheVariants.{Output, Respect, Step, Refused}
use Rattle.views.proofs.Flags.{answer_accepted}

-- ---- no answer of a search is a refusal, and two places have two answers
pub answer_refused {ℓ} : {X : Type ℓ} {r : refusals.Refused} (x : Option Place) → Err (Refused r) ≡ answer x → X
unfolding answer
answer_refused none e = cc
answer_refused (some (output a s t)) e = cc
answer_refused (some (respect u a s)) e = cc
answer_refused (some (step u a s t)) e = cc

-- the place that an answer names
place : Judgement → Option Place
place (Ok _) = none
place (Err (Output a s t)) = some (output a s t)
place (Err (Respect u a s)) = some (respect u a s)
place (Err (Step u a s t)) = some (step u a s t)
place (Err (Refused r)) = none

place_answer : (x : Option Place) → place (answer x) ≡ x
unfolding answer place
place_answer none = refl
place_answer (some (output a s t)) = refl
place_answer (some (respect u a s)) = refl
place_answer (some (step u a s t)) = refl

pub answer_once : (x y : Option Place) → answer x ≡ answer y → x ≡ y
answer_once x y e = sym (place_answer x) ∙ ap place e ∙ place_answer y

module _ (m : Model) (next outputs views : List ℕ) where
  abbrev denoted : noninterference.Machine
  denoted = machine_of m.machine next outputs

  -- every state of the table
  abbrev tabled : States
  tabled s = s < m.machine.sizes.states

  abbrev view : ℕ → ℕ → ℕ
  view = view_of m.machine views

  abbrev found : Option Place
  found = judged intransitive denoted every_state (policy_of m) view

  -- ---- which of the three answers it is
  pub refused_length : lengths_fit next outputs views ≡ false → judgement_of m next outputs views ≡ Err (Refused (refused_as Length 0))
  unfolding judgement_of
  refused_length e = sym (choose_no _ e refl)

  pub refused_rules : lengths_fit next outputs views ≡ true → model_table_fits m next ≡ false → judgement_of m next outputs views ≡ Err (Refused (refused_as Rules 0))
  unfolding judgement_of
  refused_rules e f = sym (choose_yes _ e (choose_no _ f refl))

  pub judged_is : lengths_fit next outputs views ≡ true → model_table_fits m next ≡ true → judgement_of m next outputs views ≡ answer found
  unfolding judgement_of first_broken
  judged_is e f = sym (choose_yes _ e (choose_yes _ f refl))

  -- an answer that a search gives is that of a model that isn't refused
  pub not_refused : (x : Option Place) → judgement_of m next outputs views ≡ answer x → (model_table_fits m next ≡ true) × (found ≡ x)
  not_refused x e =
      by_test (lengths_fit next outputs views)
      (λ l. by_test (model_table_fits m next)
      (λ f. (f, answer_once _ _ (sym (judged_is l f) ∙ e)))
      (λ f. answer_refused x (sym (refused_rules l f) ∙ e)))
      (λ l. answer_refused x (sym (refused_length l) ∙ e))

  in_table : (s : ℕ) → tabled s ↔ ((s < m.machine.sizes.states) × (every_state s ≡ true))
  in_table s = (λ l. (l, refl), λ p. p.0)

  searched_accepted : (found ≡ none) ↔ Conditions intransitive denoted tabled (policy_of m) (ByView view)
  searched_accepted = searches.accepted intransitive denoted every_state tabled in_table (policy_of m) view

  -- ---- demand 2
  pub accepted_exactly : lengths_fit next outputs views ≡ true → model_table_fits m next ≡ true →
      (judgement_of m next outputs views ≡ accepted) ↔ Conditions intransitive denoted tabled (policy_of m) (ByView view)
  unfolding answer
  accepted_exactly l f = (
    λ e. searched_accepted.0 (answer_accepted _ (sym (judged_is l f) ∙ e)),
    λ k. judged_is l f ∙ ap answer (searched_accepted.1 k),
  )

  pub accepted_or_place : lengths_fit next outputs views ≡ true → model_table_fits m next ≡ true →
      (judgement_of m next outputs views ≡ accepted) ⊎ ((p : Place) × (judgement_of m next outputs views ≡ answer (some p)))
  unfolding answer
  accepted_or_place l f = go found (judged_is l f)
    where
      go : (x : Option Place) → judgement_of m next outputs views ≡ answer x →
          (judgement_of m next outputs views ≡ accepted) ⊎ ((p : Place) × (judgement_of m next outputs views ≡ answer (some p)))
      go none e = inl e
      go (some p) e = inr (p, e)

  pub first_place : (p : Place) → judgement_of m next outputs views ≡ answer (some p) →
      FirstBroken intransitive denoted tabled (policy_of m) view OfAny p
  first_place p e = first_broken_lem intransitive denoted every_state tabled in_table (policy_of m) view p (not_refused (some p) e).1

  pub accepted_secure : judgement_of m next outputs views ≡ accepted → Secure intransitive denoted (policy_of m)
  unfolding answer
  accepted_secure e =
      let n = not_refused none e in
      let g = (model_table_good m next).0 n.0 in
      unwinding denoted tabled (policy_of m) (ByView view) (closed m.machine next outputs g.0) (owned m.machine next outputs g.0.machine)
      (by_view view) intransitive (searched_accepted.0 n.1)
