-- One test of a case that computes, and the law that turns it into the case's statement.
-- Assumes nothing.
use mathlib.Core.Path.{◌≡◌, refl, ◌∙◌, ap}
use mathlib.Core.Logic.{◌↔◌}
use mathlib.Core.Bool.{Bool, true}
use mathlib.Core.List.{List}
use mathlib.Core.Option.{Option, none, some}
use Prim.Native.Nat.{ℕ, ◌<◌}
use lib.Dec.{eqb, leb}
use lib.ListN.{length}
use borrow.Author.Tests.{eqb-true, eq-eqb}
use Rattle.laws.specs.Choice.{both, choose}
use Rattle.laws.proofs.Tests.{both_true, both_of}
use Rattle.noninterference.specs.Purge.{intransitive, purge, keeps}
use Rattle.noninterference.specs.Place as places
use Rattle.noninterference.specs.Place.{Place, OfAny, FirstBroken}
use Rattle.noninterference.specs.Judged as searches
use Rattle.noninterference.proofs.Judged as noninterference
use Rattle.model.specs.Limits.{NEXT_ENTRIES, OUTPUT_ENTRIES, VIEW_ENTRIES}
use Rattle.model.specs.Refused.{model_table_fits, model_fits}
use Rattle.model.specs.Denoted.{owner_at}
use Rattle.views.specs.Judgement.{judgement_of, first_broken, answer, every_state, lengths_fit}
use Rattle.purge.specs.Purged.{purged_of, written, asked, kept_of}
use Rattle.model.specs.declared.Kind.TheVariants.{Intransitive}
use Rattle.cases.specs.Cases.{Case, Views, accepted, output, respect, step}
use Rattle.cases.specs.Meets.{next, outputs, views, machine, state, policy, view, id_at, at, Judged, Purged}
use Rattle.cases.proofs.Same.{same_list, same_list_lem, ranked, same_rank, full_length}

-- the tables are not too long, and the model is not refused
unfoldable pub good : Case → Bool
good c =
    both (leb (length c.next) NEXT_ENTRIES)
    (both (leb (length c.outputs) OUTPUT_ENTRIES) (both (leb (length c.views) VIEW_ENTRIES) (model_table_fits c.model (next c))))

-- the place that a claim names, and the box that its id has to be
abbrev place_of : Case → Views → Option Place
place_of c accepted = none
place_of c (output id a s t) = some (places.output a s t)
place_of c (respect id a s) = some (places.respect (at c id) a s)
place_of c (step id a s t) = some (places.step (at c id) a s t)

abbrev id_right : Case → Views → Bool
id_right c accepted = true
id_right c (output id a s t) = eqb (id_at c (owner_at c.model.machine a)) id
id_right c (respect id a s) = eqb (id_at c (at c id)) id
id_right c (step id a s t) = eqb (id_at c (at c id)) id

abbrev found : Case → Option Place
found c = searches.judged intransitive (machine c) every_state (policy c) (view c)

unfoldable pub judged_right : Case → Views → Bool
judged_right c v = both (same_list (ranked (found c)) (ranked (place_of c v))) (id_right c v)

module _ (c : Case) (g : good c ≡ true) where
  pub lengths : lengths_fit (next c) (outputs c) (views c) ≡ true
  unfolding lengths_fit good
  lengths =
      let a = both_true _ _ g in
      let b = both_true _ _ a.1 in
      let d = both_true _ _ b.1 in
      both_of (eq-eqb _ _ (full_length NEXT_ENTRIES c.next a.0))
      (both_of (eq-eqb _ _ (full_length OUTPUT_ENTRIES c.outputs b.0)) (eq-eqb _ _ (full_length VIEW_ENTRIES c.views d.0)))

  pub fits : model_table_fits c.model (next c) ≡ true
  unfolding good
  fits = (both_true _ _ (both_true _ _ (both_true _ _ g).1).1).1

  called : judgement_of c.model (next c) (outputs c) (views c) ≡ answer (found c)
  unfolding judgement_of first_broken choose
  called = rw (lengths, fits)

  every : (s : ℕ) → state c s ↔ ((s < c.model.machine.sizes.states) × (every_state s ≡ true))
  every s = (λ l. (l, refl), λ p. p.0)

  broken : (p : Place) → found c ≡ some p → FirstBroken intransitive (machine c) (state c) (policy c) (view c) OfAny p
  broken p e = noninterference.first_broken_lem intransitive (machine c) every_state (state c) every (policy c) (view c) p e

  pub judged_right_lem : (v : Views) → judged_right c v ≡ true → Judged c v
  unfolding judged_right answer
  judged_right_lem accepted h =
      let e : found c ≡ none = same_rank _ _ (same_list_lem _ _ (both_true _ _ h).0) in
      ((noninterference.accepted intransitive (machine c) every_state (state c) every (policy c) (view c)).0 e, called ∙ ap answer e)
  judged_right_lem (output id a s t) h =
      let b = both_true _ _ h in
      let e : found c ≡ some (places.output a s t) = same_rank _ _ (same_list_lem _ _ b.0) in
      (broken _ e, eqb-true _ _ b.1, called ∙ ap answer e)
  judged_right_lem (respect id a s) h =
      let b = both_true _ _ h in
      let e : found c ≡ some (places.respect (at c id) a s) = same_rank _ _ (same_list_lem _ _ b.0) in
      (broken _ e, eqb-true _ _ b.1, called ∙ ap answer e)
  judged_right_lem (step id a s t) h =
      let b = both_true _ _ h in
      let e : found c ≡ some (places.step (at c id) a s t) = same_rank _ _ (same_list_lem _ _ b.0) in
      (broken _ e, eqb-true _ _ b.1, called ∙ ap answer e)

-- ---- purged runs
unfoldable pub purged_right : Case → List ℕ → ℕ → List ℕ → Bool
purged_right c run id kept =
    both (model_fits c.model) (both (asked c.model (at c id) run) (same_list (kept_of c.model Intransitive (at c id) run) kept))

pub purged_right_lem : (c : Case) (run : List ℕ) (id : ℕ) (kept : List ℕ) → purged_right c run id kept ≡ true → Purged c run id kept
unfolding purged_right kept_of purged_of choose
purged_right_lem c run id kept h =
    let a = both_true _ _ h in
    let b = both_true _ _ a.1 in
    let e : purge (keeps intransitive (owner_at c.model.machine) (policy c) (at c id)) run ≡ kept = same_list_lem _ _ b.1 in
    (e, λ buffer l. rw (eq-eqb _ _ l, a.0, b.0) (ap (λ k. written k (length run)) e))
