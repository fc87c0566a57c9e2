-- Whoever meets demand 2 still accepts with more arrows drawn, and so on the verdict's bytes.
-- Assumes nothing.
use mathlib.Core.Path.{◌≡◌, refl, sym, subst, ◌∙◌}
use mathlib.Core.Bool.{Bool, true, false, ◌&&◌, ◌||◌}
use mathlib.Core.List.{List, [], ◌∷◌, ◌++◌}
use Prim.Native.Nat.{ℕ, ◌<◌, ◌≤◌}
use native.Mathlib.Nat.{lt_of_lt_of_le}
use lib.Dec.{eqb, ltb}
use lib.ListN.{length}
use Rattle.laws.proofs.Tests.{not_both}
use Rattle.noninterference.specs.Purge.{Policy, intransitive}
use Rattle.noninterference.specs.Conditions.{Conditions, ByView}
use Rattle.noninterference.proofs.Extends.{extends_conditions}
use Rattle.model.specs.Limits.{SHEET_BYTES}
use Rattle.model.specs.Denoted.{machine_of, policy_of, view_of}
use Rattle.model.specs.Good.{GoodMachine}
use Rattle.model.specs.declared.Machine.{Machine}
use Rattle.model.specs.declared.Model.{Model}
use Rattle.model.proofs.Denoted.{owned}
use Rattle.model.proofs.Good.{model_table_good}
use Rattle.sheet.specs.Reading.{model_of, sheet_text}
use Rattle.sheet.proofs.Fits.{read_fits}
use Rattle.views.specs.Judgement.{Judgement}
use Rattle.demands.specs.Calls.{Bytes, Table}
use Rattle.demands.specs.Demands.{Demand2, DemandOnBytes, Meets}
use Rattle.demands.specs.Printed as paper
use Rattle.demands.specs.Printed.{Drawn, Paper, Good, print, ids_of}
use Rattle.demands.specs.Meant.{sizes_of, parts_of, leads, goes}
use Rattle.demands.specs.AnotherArrow.{NeverHurts, with_arrows, NeverHurtsOnBytes}
use Rattle.demands.proofs.Meant.{printed_means, arrow_at_lem}

-- ---- the judge
-- the conditions for a machine and a policy, and those for the same machine and a policy with its arrows
onward : (k k' : Machine) (next outputs views : List ℕ) (fewer more : Policy) → GoodMachine k → k ≡ k' →
    ((v u : ℕ) → v < k.sizes.boxes → u < k.sizes.boxes → fewer v u ≡ true → more v u ≡ true) →
    Conditions intransitive (machine_of k next outputs) (λ s. s < k.sizes.states) fewer (ByView (view_of k views)) →
    Conditions intransitive (machine_of k' next outputs) (λ s. s < k'.sizes.states) more (ByView (view_of k' views))
onward k k' next outputs views fewer more g e x c =
    subst (λ (k : Machine). Conditions intransitive (machine_of k next outputs) (λ s. s < k.sizes.states) more (ByView (view_of k views))) e
    (extends_conditions (machine_of k next outputs) fewer more (owned k next outputs g) (record { extends = x }) intransitive _ _ c)

pub never_hurts : (judge : Model → Table → Table → Table → Judgement) → Demand2 judge → NeverHurts judge
never_hurts judge d = record {
  judged = λ m m' next outputs views h g g' r e.
      (d.accepted m' next outputs views h g').1
      (onward m.machine m'.machine next outputs views (policy_of m) (policy_of m') g.0.machine r.machine r.arrows
      ((d.accepted m next outputs views h g).0 e));
}

-- ---- the sheets
or_left : (a b c : Bool) → (b ≡ true → c ≡ true) → (a || b) ≡ true → (a || c) ≡ true
or_left true b c f h = refl
or_left false b c f h = f h

leads_more : (ids : List ℕ) (xs ys : List Drawn) (v u : ℕ) → leads ids xs v u ≡ true → leads ids (xs ++ ys) v u ≡ true
unfolding leads
leads_more ids [] ys v u h = not_both h refl
leads_more ids (paper.flow i j ∷ xs) ys v u h = or_left (goes ids i j v u) _ _ (leads_more ids xs ys v u) h
leads_more ids (paper.both i j ∷ xs) ys v u h =
    or_left (goes ids i j v u) _ _ (or_left (goes ids j i v u) _ _ (leads_more ids xs ys v u)) h

module _ (p : Paper) (xs : List Drawn) (g : Good p) (g' : Good (with_arrows p xs)) where
  drawn_more : (v u : ℕ) → v < length p.boxes → u < length p.boxes →
      policy_of (model_of (sizes_of p) (parts_of p)) v u ≡ true → policy_of (model_of (sizes_of p) (parts_of (with_arrows p xs))) v u ≡ true
  drawn_more v u lv lu h =
      let kv = lt_of_lt_of_le lv g.boxes_in.1 in
      let ku = lt_of_lt_of_le lu g.boxes_in.1 in
      arrow_at_lem (with_arrows p xs) g' v u kv ku
      ∙ or_left (ltb v (length p.boxes) && eqb v u) (leads (ids_of p.boxes) p.arrows v u) (leads (ids_of p.boxes) (p.arrows ++ xs) v u)
      (leads_more (ids_of p.boxes) p.arrows xs v u) (sym (arrow_at_lem p g v u kv ku) ∙ h)

  meets_more : length (print p) ≤ SHEET_BYTES → length (print (with_arrows p xs)) ≤ SHEET_BYTES →
      Meets (sheet_text (print p)) → Meets (sheet_text (print (with_arrows p xs)))
  meets_more short short' h =
      let e = printed_means p g short in
      let q = parts_of p in
      let m = model_of (sizes_of p) (parts_of p) in
      let good = ((model_table_good m (parts_of p).drawn.steps.next).0 (read_fits (print p) e).0).0.machine in
      subst Meets (sym (printed_means (with_arrows p xs) g' short'))
      (onward m.machine m.machine q.drawn.steps.next q.drawn.steps.outputs q.drawn.views
      (policy_of m) (policy_of (model_of (sizes_of p) (parts_of (with_arrows p xs)))) good refl drawn_more (subst Meets e h))

pub never_hurts_on_bytes : (verdict : Bytes → Bytes) → DemandOnBytes verdict → NeverHurtsOnBytes verdict
never_hurts_on_bytes verdict d = record {
  approved = λ p xs g g' short short' h.
      (d.accepted (print (with_arrows p xs))).1 (meets_more p xs g g' short short' ((d.accepted (print p)).0 h));
}
