-- What is written is small: every number of an answer fits, and there are few enough lines.
-- Assumes nothing.
use mathlib.Core.Path.{◌≡◌, refl, sym, subst}
use mathlib.Core.Logic.{⊎_elim}
use mathlib.Core.Bool.{true}
use mathlib.Core.List.{List}
use mathlib.Core.Option.{some}
use Prim.Native.Nat.{ℕ, ◌-◌, ◌*◌, ◌<◌, ◌≤◌}
use native.Mathlib.Omega.{arith}
use native.Mathlib.Nat.{le_refl}
use native.Mathlib.Decide.{dec_lt}
use lib.ListN.{length, get_or}
use Rattle.laws.specs.Range.{count}
use Rattle.laws.proofs.Tests.{by_test, choose_no, choose_yes}
use Rattle.laws.proofs.Count.{count_le}
use Rattle.laws.proofs.Tables.{zero_at}
use Rattle.noninterference.specs.Place.{Place, output, respect, step}
use Rattle.noninterference.specs.Reached.{reached}
use Rattle.noninterference.specs.Rounds.{needed_list}
use Rattle.model.specs.Limits.{BOXES, STATES, PAIRS}
use Rattle.model.proofs.Limits.{pairs_most}
use Rattle.model.specs.Denoted.{machine_of}
use Rattle.model.specs.Good.{GoodTable}
use Rattle.model.specs.Refused.{model_table_fits, machine_table_fits}
use Rattle.model.specs.declared.Machine.{Machine}
use Rattle.model.specs.declared.Model.{Model}
use Rattle.model.proofs.Good.{table_good, model_table_good}
use Rattle.views.specs.Judgement as judging
use Rattle.views.specs.Judgement.{judgement_of, answer}
use Rattle.views.proofs.Sound.{refused_length, refused_rules, accepted_or_place, first_place}
use Rattle.needs.specs.Answered.{needed_of, list_of, lengths_fit, found_in, depths_of}
use Rattle.needs.specs.Demand.{Demand}
use Rattle.needs.proofs.Demand.{demand_3}
use Rattle.zarpalume.specs.Lines.{Small}
use Rattle.std.specs.Prelude.{Err}
use Rattle.model.specs.Refusal.{refused_as}
use Rattle.model.specs.declared.refusal.Refusal.TheVariants.{Length, Rules}
use Rattle.model.specs.declared.refusal.Refused.{Refused}
use Rattle.zarpalume.specs.Verdict.{found, Few}

-- ---- the judge's answer
module _ (m : Model) (next outputs views : List ℕ) where
  place_small : GoodTable m.machine next → (p : Place) → judgement_of m next outputs views ≡ answer (some p) → Small (answer (some p))
  unfolding answer
  place_small g (output a s t) e =
      let b = (first_place m next outputs views (output a s t) e).breaks in
      let l = b.0 in let i = b.2 in let j = b.3 in let n = g.machine.sizes.states_most in let k = g.machine.sizes.actions_most in
      (omega arith, omega arith, omega arith)
  place_small g (respect u a s) e =
      let b = (first_place m next outputs views (respect u a s) e).breaks in
      let l = b.1 in let i = b.2 in let n = g.machine.sizes.states_most in let k = g.machine.sizes.actions_most in
      (omega arith, omega arith)
  place_small g (step u a s t) e =
      let b = (first_place m next outputs views (step u a s t) e).breaks in
      let l = b.1 in let i = b.3 in let j = b.4 in let n = g.machine.sizes.states_most in let k = g.machine.sizes.actions_most in
      (omega arith, omega arith, omega arith)

  pub small : Small (judgement_of m next outputs views)
  small =
      by_test (judging.lengths_fit next outputs views)
      (λ l. by_test (model_table_fits m next)
      (λ f. ⊎_elim (λ e. subst Small (sym e) tt)
      (λ q. subst Small (sym q.1) (place_small ((model_table_good m next).0 f).0 q.0 q.1)) (accepted_or_place m next outputs views l f))
      (λ f. subst Small (sym (refused_rules m next outputs views l f)) (omega arith)))
      (λ l. subst Small (sym (refused_length m next outputs views l)) (omega arith))

-- ---- the needed-arrow call's answer
refused_few : (refused : Refused) → Few (found (Err refused))
refused_few refused = record { pairs_few = omega arith; reach_small = omega arith; depth_small = λ u. let z = zero_at BOXES u in omega arith }

module _ (m : Machine) (next outputs list : List ℕ) where
  found_few : lengths_fit next outputs list ≡ true → machine_table_fits m next ≡ true → Few (found_in (machine_of m next outputs))
  found_few l f =
      let d = (demand_3 m next outputs list l f).1 in
      let g = (table_good m next).0 f in
      let b = g.machine.sizes.boxes_most in
      let s = g.machine.sizes.states_most in
      let c : count m.sizes.states (reached (machine_of m next outputs)) ≤ m.sizes.states = count_le m.sizes.states (reached (machine_of m next outputs)) in
      let p : m.sizes.boxes * (m.sizes.boxes - 1) ≤ PAIRS = pairs_most (le_refl _) b in
      let q = d.few in
      record { pairs_few = omega arith; reach_small = omega arith; depth_small = λ u. depth d c s u (dec_lt u m.sizes.boxes) }
    where
      depth : Demand (machine_of m next outputs) (length (needed_list (machine_of m next outputs))) (count m.sizes.states (reached (machine_of m next outputs))) (depths_of (machine_of m next outputs)) (list_of m next outputs list) →
          count m.sizes.states (reached (machine_of m next outputs)) ≤ m.sizes.states → m.sizes.states ≤ STATES → (u : ℕ) → Dec (u < m.sizes.boxes) →
          get_or (depths_of (machine_of m next outputs)) u 0 < 65536
      depth d c s u (yes l) = let h = d.below_reach u l in omega arith
      depth d c s u (no l) = let h = d.beyond u (omega arith) in omega arith

  pub few : Few (found (needed_of m next outputs list))
  unfolding needed_of
  few =
      by_test (lengths_fit next outputs list)
      (λ l. by_test (machine_table_fits m next)
      (λ f. subst (λ x. Few (found x)) (sym (demand_3 m next outputs list l f).0) (found_few l f))
      (λ f. subst (λ x. Few (found x)) (choose_yes _ l (choose_no _ f refl)) (refused_few (refused_as Rules 0))))
      (λ l. subst (λ x. Few (found x)) (choose_no _ l refl) (refused_few (refused_as Length 0)))
