-- After a good read the judge and the needed-arrow call refuse nothing, and the verdict's bytes are the rows of what is told.
-- Assumes nothing.
use Rattle.std.specs.Prelude.{Ok}
use mathlib.Core.Path.{◌≡◌, refl, sym, ap, ap₂, ◌∙◌}
use mathlib.Core.Logic.{◌↔◌, inl, inr}
use mathlib.Core.Bool.{true}
use mathlib.Core.List.{List, [], ◌∷◌, ◌++◌, append-nil}
use mathlib.Core.Option.{Option, none, some}
use Prim.Native.Nat.{ℕ, zero, suc, ◌-◌, ◌*◌, ◌<◌, ◌≤◌}
use native.Mathlib.Omega.{arith}
use native.Mathlib.Nat.{le_refl}
use lib.ListN.{length, get_or, replicate, length-replicate}
use Rattle.laws.specs.Range.{count, tabulate}
use Rattle.laws.proofs.Count.{count_le}
use Rattle.noninterference.specs.Machine as noninterference
use Rattle.noninterference.specs.Purge.{intransitive}
use Rattle.noninterference.specs.Conditions.{Conditions, ByView}
use Rattle.noninterference.specs.Place as places
use Rattle.noninterference.specs.Place.{Place}
use Rattle.noninterference.specs.Judged.{judged}
use Rattle.noninterference.specs.Needed.{Arrow, arrow, Member}
use Rattle.noninterference.specs.Reached.{reached}
use Rattle.noninterference.specs.Rounds.{depth_of, needed_list}
use Rattle.noninterference.proofs.NeededList.{needed_list_lem}
use Rattle.noninterference.proofs.Reached.{reach as reaches}
use Rattle.noninterference.proofs.Rounds.{depth_below, depth_computed}
use Rattle.model.specs.Limits.{LIST_ENTRIES, STATES}
use Rattle.model.specs.Denoted.{machine_of, policy_of, view_of}
use Rattle.model.specs.Good.{GoodTable, GoodDrawing}
use Rattle.model.specs.declared.Sizes.{Sizes}
use Rattle.model.specs.Refused.{model_table_fits, machine_table_fits}
use Rattle.model.specs.declared.Model.{Model}
use Rattle.model.proofs.Good.{model_table_good, table_good}
use Rattle.model.proofs.Denoted.{closed, owned}
use Rattle.views.specs.Judgement.{answer, every_state, judgement_of}
use Rattle.views.specs.Judgement as judging
use Rattle.views.proofs.Sound.{answer_once, judged_is, first_place, accepted_exactly}
use Rattle.needs.specs.Answered as needing
use Rattle.needs.specs.Answered.{found_in, needed_of, list_of, depths_of}
use Rattle.needs.specs.Listed.{padded}
use Rattle.needs.proofs.Answering.{list_found}
use Rattle.needs.proofs.Demand.{depth_at, demand_3}
use Rattle.sheet.specs.Reading.{model_of, Parts, model, sheet_text}
use Rattle.sheet.proofs.Fits.{read_fits}
use Rattle.cases.specs.Cases.{Views, accepted}
use Rattle.zarpalume.specs.Words as words
use Rattle.zarpalume.specs.Lines.{line, views_line, need_lines, depth_lines, reach_line}
use Rattle.zarpalume.specs.Verdict.{blank, verdict_of}
use Rattle.zarpalume.specs.Verdict as verdicts
use Rattle.demands.specs.Told.{views_by, arrows_by, id_at, told_of}
use Rattle.demands.proofs.Refusing.{judge_lengths, needed_lengths}
use Rattle.demands.specs.Printed.{text}
use Rattle.demands.proofs.Rows.{text_append}
use Rattle.demands.proofs.Bytes.{views_row, pair_rows, reach_row, rows_of, needs_text, depths_text, views_once, Small, SmallViews, SmallPairs, LARGEST}

-- the line on views, of a place that was found
views_line_lem : (ids owners : List ℕ) (M : noninterference.Machine) → ((o : ℕ) → M.watcher o ≡ get_or owners o 0) → (x : Option Place) →
    views_line ids owners (answer x) ≡ line (views_row (views_by ids M x))
unfolding answer views_row
views_line_lem ids owners M h none = refl
views_line_lem ids owners M h (some (places.output o s t)) = rw (h o) refl
views_line_lem ids owners M h (some (places.respect u a s)) = refl
views_line_lem ids owners M h (some (places.step u a s t)) = refl

place_none : (ids : List ℕ) (M : noninterference.Machine) (x : Option Place) → views_by ids M x ≡ accepted → x ≡ none
place_none ids M none e = refl
place_none ids M (some (places.output o s t)) e = cc
place_none ids M (some (places.respect u a s)) e = cc
place_none ids M (some (places.step u a s t)) e = cc

small_append : (ps qs : List (ℕ × ℕ)) → SmallPairs ps → SmallPairs qs → SmallPairs (ps ++ qs)
small_append [] qs hp hq = hq
small_append (p ∷ ps) qs hp hq = (hp.0, small_append ps qs hp.1 hq)

module _ (t : List ℕ) {z : Sizes} {p : Parts} (e : sheet_text t ≡ model z p) where
  abbrev m : Model
  m = model_of z p

  abbrev next : List ℕ
  next = p.drawn.steps.next

  abbrev outputs : List ℕ
  outputs = p.drawn.steps.outputs

  abbrev views : List ℕ
  views = p.drawn.views

  abbrev M : noninterference.Machine
  M = machine_of m.machine next outputs

  fits : model_table_fits m next ≡ true
  fits = (read_fits t e).0

  good : GoodTable m.machine next × GoodDrawing m
  good = (model_table_good m next).0 fits

  table_fits : machine_table_fits m.machine next ≡ true
  table_fits = (table_good m.machine next).1 good.0

  lengths : judging.lengths_fit next outputs views ≡ true
  lengths = let f = read_fits t e in (judge_lengths next outputs views).1 (f.1, f.2, f.3)

  lent : needing.lengths_fit next outputs blank ≡ true
  lent = let f = read_fits t e in (needed_lengths next outputs blank).1 (f.1, f.2, length-replicate {A = ℕ} LIST_ENTRIES 0)

  -- ---- nothing is refused
  abbrev found : Option Place
  found = judged intransitive M every_state (policy_of m) (view_of m.machine views)

  pub judge_answers : judgement_of m next outputs views ≡ answer found
  judge_answers = judged_is m next outputs views lengths fits

  pub needed_answers : needed_of m.machine next outputs blank ≡ Ok (found_in M)
  needed_answers = (demand_3 m.machine next outputs blank lent table_fits).0

  pub list_written : list_of m.machine next outputs blank ≡ padded (needed_list M)
  list_written = list_found m.machine next outputs blank lent table_fits

  -- ---- the bytes
  abbrev arrows : List (ℕ × ℕ)
  arrows = arrows_by m.ids (needed_list M)

  abbrev depths : List (ℕ × ℕ)
  depths = tabulate z.boxes λ u. (id_at m.ids u, depth_of M u)

  abbrev reach : ℕ
  reach = count z.states (reached M)

  need_lines_lem : need_lines m.ids (list_of m.machine next outputs blank) (verdicts.found (needed_of m.machine next outputs blank)).count ≡ text (pair_rows words.need arrows)
  unfolding padded
  need_lines_lem =
      ap₂ (λ l n. need_lines m.ids l n.count) list_written (ap verdicts.found needed_answers)
      ∙ needs_text m.ids (replicate (LIST_ENTRIES - 2 * length (needed_list M)) 0) (needed_list M)

  depth_lines_lem : depth_lines m.ids (verdicts.found (needed_of m.machine next outputs blank)).depths z.boxes ≡ text (pair_rows words.depth depths)
  depth_lines_lem =
      ap (λ n. depth_lines m.ids n.depths z.boxes) (ap verdicts.found needed_answers)
      ∙ depths_text m.ids (depths_of M) (depth_of M) z.boxes
      (λ u l. depth_at M (closed m.machine next outputs good.0) (owned m.machine next outputs good.0.machine) good.0.machine.sizes.boxes_most u l)

  reach_line_lem : reach_line (verdicts.found (needed_of m.machine next outputs blank)).reach ≡ text (reach_row reach ∷ [])
  unfolding text reach_row
  reach_line_lem = ap (λ n. reach_line n.reach) (ap verdicts.found needed_answers) ∙ sym (append-nil (reach_line reach))

  pub said : verdict_of m next outputs views ≡ text (rows_of (told_of m next outputs views))
  unfolding verdict_of rows_of told_of text
  said =
      ap₂ (λ x y. x ++ y)
      (ap (views_line m.ids m.machine.owners) judge_answers ∙ views_line_lem m.ids m.machine.owners M (λ o. refl) found)
      (ap₂ (λ x y. x ++ y) need_lines_lem
      (ap₂ (λ x y. x ++ y) depth_lines_lem reach_line_lem ∙ sym (text_append (pair_rows words.depth depths) (reach_row reach ∷ [])))
      ∙ sym (text_append (pair_rows words.need arrows) (pair_rows words.depth depths ++ (reach_row reach ∷ []))))

  -- ---- every number is small
  id_fits : (u : ℕ) → u < z.boxes → id_at m.ids u ≤ LARGEST
  id_fits u l = let h = good.1.id_small u l in omega arith

  abbrev pub judged_views : Views
  judged_views = views_by m.ids M found

  views_small : SmallViews judged_views
  views_small = go found refl
    where
      go : (x : Option Place) → found ≡ x → SmallViews (views_by m.ids M x)
      go none q = tt
      go (some (places.output o s u)) q =
          let b = (first_place m next outputs views (places.output o s u) (judge_answers ∙ ap answer q)).breaks in
          let lo = b.0 in let ls = b.2 in let lu = b.3 in
          let k = good.0.machine.sizes.states_most in let j = good.0.machine.sizes.actions_most in
          (id_fits _ (good.0.machine.owner_in o b.0), omega arith, omega arith, omega arith)
      go (some (places.respect v a s)) q =
          let b = (first_place m next outputs views (places.respect v a s) (judge_answers ∙ ap answer q)).breaks in
          let la = b.1 in let ls = b.2 in
          let k = good.0.machine.sizes.states_most in let j = good.0.machine.sizes.actions_most in
          (id_fits v b.0, omega arith, omega arith)
      go (some (places.step v a s u)) q =
          let b = (first_place m next outputs views (places.step v a s u) (judge_answers ∙ ap answer q)).breaks in
          let la = b.1 in let ls = b.3 in let lu = b.4 in
          let k = good.0.machine.sizes.states_most in let j = good.0.machine.sizes.actions_most in
          (id_fits v b.0, omega arith, omega arith, omega arith)

  arrows_small : SmallPairs arrows
  unfolding arrows_by
  arrows_small = go (needed_list M) (λ v u h. let o = (needed_list_lem M (closed m.machine next outputs good.0)).only v u h in (o.0, o.1))
    where
      go : (l : List Arrow) → ((v u : ℕ) → Member (arrow v u) l → (v < z.boxes) × (u < z.boxes)) → SmallPairs (arrows_by m.ids l)
      go [] h = tt
      go (x ∷ xs) h =
          let b = h x.source x.target (inl refl) in
          ((id_fits _ b.0, id_fits _ b.1), go xs (λ v u k. h v u (inr k)))

  reach_small : reach ≤ STATES
  reach_small = let h = count_le z.states (reached M) in let k = good.0.machine.sizes.states_most in omega arith

  depth_small : (u : ℕ) → depth_of M u ≤ LARGEST
  depth_small u =
      let r = reaches M (closed m.machine next outputs good.0) in
      let h = depth_below M u (reached M) r _ (depth_computed M u (reached M) r) in
      let k = reach_small in
      omega arith

  depths_small : (n : ℕ) → n ≤ z.boxes → SmallPairs (tabulate n λ u. (id_at m.ids u, depth_of M u))
  unfolding tabulate
  depths_small zero h = tt
  depths_small (suc n) h = small_append (tabulate n λ u. (id_at m.ids u, depth_of M u)) _ (depths_small n (omega arith)) ((id_fits n (omega arith), depth_small n), tt)

  pub all_small : Small (told_of m next outputs views)
  unfolding told_of
  all_small = let k = reach_small in (views_small, arrows_small, depths_small z.boxes (le_refl z.boxes), omega arith)

  -- ---- accepted is what the row says exactly where the conditions hold
  pub accepted_told : (views_row judged_views ≡ views_row accepted) ↔ Conditions intransitive M (λ s. s < z.states) (policy_of m) (ByView (view_of m.machine views))
  unfolding answer
  accepted_told =
      let c = accepted_exactly m next outputs views lengths fits in (
        λ r. c.0 (judge_answers ∙ ap answer (place_none m.ids M found (views_once _ accepted views_small tt r))),
        λ h. ap (λ x. views_row (views_by m.ids M x)) (answer_once found none (sym judge_answers ∙ c.1 h)),
      )
