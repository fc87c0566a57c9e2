-- No demand is empty: what a call must not do, and the case at which the demand refuses it.
-- Assumes nothing.
use mathlib.Core.Path.{◌≡◌, refl, sym, ap, ◌∙◌}
use mathlib.Core.Logic.{◌≢◌}
use mathlib.Core.Bool.{Bool, true, false}
use mathlib.Core.List.{List, [], ◌∷◌}
use Prim.Native.Nat.{ℕ, ◌*◌, ◌<◌}
use native.Mathlib.Omega.{arith}
use lib.ListN.{length, get_or, replicate, length-replicate, take-append-drop}
use Rattle.laws.specs.Choice.{both, either, brings, without, choose}
use Rattle.laws.specs.Range as range
use Rattle.laws.proofs.Tests.{not_both}
use Rattle.noninterference.specs.Reached.{Reach}
use Rattle.noninterference.specs.Rounds.{sees_alike, alike, needed_in, arrows_from, arrows_upto}
use Rattle.noninterference.proofs.NeededList.{list_unique}
use Rattle.noninterference.proofs.Rounds.{depth_unique}
use Rattle.model.specs.Limits.{BOXES, NEXT_ENTRIES, OUTPUT_ENTRIES, VIEW_ENTRIES, LIST_ENTRIES}
use Rattle.model.specs.Denoted.{machine_of}
use Rattle.model.specs.declared.Machine.{Machine}
use Rattle.model.specs.declared.Model.{Model}
use Rattle.model.proofs.Good.{model_table_good}
use Rattle.register.specs.Tables.{column, by_state}
use Rattle.std.specs.Prelude.{Result, Ok}
use Rattle.model.specs.declared.refusal.Refused.{Refused}
use Rattle.views.specs.Judgement as judging
use Rattle.views.specs.Judgement.{Judgement}
use Rattle.needs.specs.Demand.{Demand}
use Rattle.needs.specs.Listed.{flat, padded}
use Rattle.needs.specs.declared.Needs.{Needs}
use Rattle.text.specs.Lines.{before, onto, lines, fields, same}
use Rattle.text.specs.Number.{digit, more, number}
use Rattle.sheet.specs.Numbers.{each, numbers, record_of}
use Rattle.sheet.specs.Records.{plain, sheet_line, box_line, act_line, go_line, flow_line, view_line}
use Rattle.sheet.specs.Phases.{phase, flows}
use Rattle.sheet.specs.Reading.{Reading, model, refusal, parts, drawing, zeros, sheet_lines, sheet_text}
use Rattle.std.specs.Prelude.{Err}
use Rattle.model.specs.Refusal.{refused_as}
use Rattle.model.specs.declared.refusal.Refusal as named
use Rattle.sheet.proofs.Table.{means_refused}
use Rattle.cases.specs.Cases.{Case, p1, p2, p3, p4, p12}
use Rattle.cases.specs.Meets.{next, outputs, views, machine, arrows_of, NeedsThese, DepthsAre, ReachIs}
use Rattle.cases.proofs.Computed.{good, lengths, fits}
use Rattle.cases.proofs.Needs.{Certificate, inside}
use Rattle.cases.proofs.Cases.{Sound, register, chain, cases_hold, cases_sound}
use Rattle.demands.specs.Calls.{Bytes, Table, Calls}
use Rattle.demands.specs.Refusals.{ThreeTables, GoodModel, TextRefusal, ten, text}
use Rattle.demands.specs.Demands.{Demand1, Demand2, Demand3}
use Rattle.demands.proofs.Refusing.{judge_lengths}

zeros_long : (n : ℕ) → length (zeros n) ≡ n
unfolding zeros
zeros_long n = length-replicate {A = ℕ} n 0

-- ---- a case is good input
module _ (c : Case) (g : good c ≡ true) where
  three : ThreeTables (next c) (outputs c) (views c)
  three = (judge_lengths (next c) (outputs c) (views c)).0 (lengths c g)

  good_model : GoodModel c.model (next c)
  good_model = (model_table_good c.model (next c)).0 (fits c g)

-- ---- demand 1: refusing every sheet, at the sheet of one state, action and box
-- sheet 1 1 1 0; box 1 A; act 1; go 0 0 0 0; view 1 0 0
abbrev smallest : List ℕ
smallest =
    115 ∷ 104 ∷ 101 ∷ 101 ∷ 116 ∷ 9 ∷ 49 ∷ 9 ∷ 49 ∷ 9 ∷ 49 ∷ 9 ∷ 48 ∷ 10
    ∷ 98 ∷ 111 ∷ 120 ∷ 9 ∷ 49 ∷ 9 ∷ 65 ∷ 10
    ∷ 97 ∷ 99 ∷ 116 ∷ 9 ∷ 49 ∷ 10
    ∷ 103 ∷ 111 ∷ 9 ∷ 48 ∷ 9 ∷ 48 ∷ 9 ∷ 48 ∷ 9 ∷ 48 ∷ 10
    ∷ 118 ∷ 105 ∷ 101 ∷ 119 ∷ 9 ∷ 49 ∷ 9 ∷ 48 ∷ 9 ∷ 48 ∷ 10 ∷ []

is_model : Reading → Bool
is_model (model z p) = true
is_model (refusal n l) = false

smallest_read : is_model (sheet_text smallest) ≡ true
unfolding is_model sheet_text sheet_lines lines onto sheet_line record_of same fields numbers each number digit more parts phase box_line before plain act_line drawing go_line flows flow_line view_line zeros
smallest_read = refl

pub refuses_every_sheet : (calls : Calls) → Demand1 calls →
    ((t : Bytes) (next outputs views : Table) → (n : named.Refusal) × (l : ℕ) × ((calls.read t next outputs views).answer ≡ Err (refused_as n l))) → ⊥
unfolding is_model
refuses_every_sheet calls d h =
    let r = h smallest (zeros NEXT_ENTRIES) (zeros OUTPUT_ENTRIES) (zeros VIEW_ENTRIES) in
    told ((d.read smallest (zeros NEXT_ENTRIES) (zeros OUTPUT_ENTRIES) (zeros VIEW_ENTRIES) r.0 r.1).1 r.2)
  where
    told : {n : named.Refusal} {l : ℕ} → TextRefusal (ThreeTables (zeros NEXT_ENTRIES) (zeros OUTPUT_ENTRIES) (zeros VIEW_ENTRIES)) smallest n l → ⊥
    told (ten k) = k (zeros_long NEXT_ENTRIES, zeros_long OUTPUT_ENTRIES, zeros_long VIEW_ENTRIES)
    told (text k r) = not_both smallest_read (ap is_model (means_refused smallest _ _ r))

-- ---- demand 2: breaking every view, at P1; accepting every view, at P4
module _ (judge : Model → Table → Table → Table → Judgement) (d : Demand2 judge) where
  pub breaks_every_view : ((m : Model) (next outputs views : Table) → judge m next outputs views ≢ judging.accepted) → ⊥
  breaks_every_view h =
      let g = cases_sound.0.0 in
      h p1.model (next p1) (outputs p1) (views p1)
      ((d.accepted p1.model (next p1) (outputs p1) (views p1) (three p1 g) (good_model p1 g)).1 cases_hold.0.0.0)

  pub accepts_every_view : ((m : Model) (next outputs views : Table) → judge m next outputs views ≡ judging.accepted) → ⊥
  accepts_every_view h =
      let g = cases_sound.1.1.1.0.0 in
      let k = (d.accepted p4.model (next p4) (outputs p4) (views p4) (three p4 g) (good_model p4 g)).0 (h p4.model (next p4) (outputs p4) (views p4)) in
      let b = cases_hold.1.1.1.0.0.0.breaks in
      b.5 (k.output.output _ _ _ b.0 b.2 b.3 b.4)

-- ---- demand 3: what it fixes at a case
abbrev blank : Table
blank = replicate LIST_ENTRIES 0

module _ (needed : Machine → Table → Table → Table → Result Needs Refused × Table) (d : Demand3 needed) where
  module _ (c : Case) (k : Certificate) (s : Sound c k) where
    abbrev given : Result Needs Refused × Table
    given = needed c.model.machine (next c) (outputs c) blank

    abbrev FoundHere : Type 0
    FoundHere = (needs : Needs) × (given.0 ≡ Ok needs) × (length needs.depths ≡ BOXES) × Demand (machine c) needs.count needs.reach needs.depths given.1

    found : FoundHere
    found =
        let t = three c s.0 in
        d.found c.model.machine (next c) (outputs c) blank (t.0, t.1, length-replicate {A = ℕ} LIST_ENTRIES 0) (good_model c s.0).0

    list_is : (ps : List (ℕ × ℕ)) → NeedsThese c ps → given.1 ≡ padded (arrows_of c ps)
    unfolding padded
    list_is ps n =
        let w = found.3 in
        sym (take-append-drop (2 * found.0.count) given.1) ∙ rw (w.on_list, w.rest_zero, w.counted, list_unique (machine c) _ _ w.needed n.0)

    depth_is : (ds : List ℕ) → DepthsAre c ds → (u : ℕ) → u < c.model.machine.sizes.boxes → get_or found.0.depths u 0 ≡ get_or ds u 0
    depth_is ds h u l = depth_unique (machine c) u _ _ (found.3.depth u l) (h.0 u l)

    reach_is : (n : ℕ) → ReachIs c n → found.0.reach ≡ n
    reach_is n h = found.3.reachable (inside k) s.1 ∙ h.0 (inside k) s.1

    the_needs : (needs : Needs) → given.0 ≡ Ok needs → needs ≡ found.0
    the_needs needs e = let q = sym e ∙ found.1 in cc

  abbrev at_p2 : Sound p2 register
  at_p2 = cases_sound.1.0

  abbrev at_p3 : Sound p3 register
  at_p3 = cases_sound.1.1.0

  abbrev at_p12 : Sound p12 chain
  at_p12 = cases_sound.1.1.1.1.1.1.1.1.1.1.1.0

  -- U's arrow to X comes first at P2, and A's arrow to B at P12
  abbrev p2_arrows : List (ℕ × ℕ)
  p2_arrows = (10, 40) ∷ (20, 40) ∷ (30, 40) ∷ []

  abbrev p12_arrows : List (ℕ × ℕ)
  p12_arrows = (1, 2) ∷ []

  p2_list : (given p2 register at_p2).1 ≡ padded (arrows_of p2 p2_arrows)
  p2_list = list_is p2 register at_p2 p2_arrows cases_hold.1.0.0

  p12_list : (given p12 chain at_p12).1 ≡ padded (arrows_of p12 p12_arrows)
  p12_list = list_is p12 chain at_p12 p12_arrows cases_hold.1.1.1.1.1.1.1.1.1.1.1.0.0

  p2_target : get_or (given p2 register at_p2).1 1 0 ≡ 3
  unfolding padded flat range.first choose
  p2_target = ap (λ l. get_or l 1 0) p2_list

  p12_target : get_or (given p12 chain at_p12).1 1 0 ≡ 1
  unfolding padded flat range.first choose
  p12_target = ap (λ l. get_or l 1 0) p12_list

  pub one_fixed_list : (list : Table) → ((m : Machine) (next outputs l : Table) → (needed m next outputs l).1 ≡ list) → ⊥
  one_fixed_list list h =
      let a : get_or list 1 0 ≡ 3 = ap (λ l. get_or l 1 0) (sym (h _ _ _ _)) ∙ p2_target in
      let b : get_or list 1 0 ≡ 1 = ap (λ l. get_or l 1 0) (sym (h _ _ _ _)) ∙ p12_target in
      omega arith

  pub list_never_touched : ((m : Machine) (next outputs l : Table) → (needed m next outputs l).1 ≡ l) → ⊥
  list_never_touched h = let a : ◌≡◌ {A = ℕ} 0 3 = ap (λ l. get_or l 1 0) (sym (h _ _ _ _)) ∙ p2_target in omega arith

  -- so many rounds and no more, whatever is answered beside the list
  abbrev Rounds : ℕ → Type 0
  Rounds k = (m : Machine) (next outputs l : Table) (inside : ℕ → Bool) → Reach (machine_of m next outputs) inside →
      (needed m next outputs l).1 ≡ padded (arrows_upto (needed_in (machine_of m next outputs) inside k) m.sizes.boxes m.sizes.boxes)

  -- W's arrow to X is then the first
  pub outputs_only : Rounds 0 → ⊥
  unfolding padded flat range.first choose arrows_upto arrows_from needed_in both range.some either without alike sees_alike range.every brings by_state column
  outputs_only h =
      let a : ◌≡◌ {A = ℕ} 2 0 = ap (λ l. get_or l 0 0) (sym (h _ _ _ _ (inside register) at_p2.1) ∙ p2_list) in omega arith

  -- A's arrow to B is then lost
  pub one_round : Rounds 1 → ⊥
  unfolding padded flat range.first choose arrows_upto arrows_from needed_in both range.some either without alike sees_alike range.every brings by_state column
  one_round h = let a : ◌≡◌ {A = ℕ} 0 1 = ap (λ l. get_or l 1 0) (sym (h _ _ _ _ (inside chain) at_p12.1) ∙ p12_list) in omega arith

  -- at P3 the depth of X is 1, and 9 states are reachable
  pub invented_depth : (needs : Needs) (k : ℕ) → k ≢ 1 → (given p3 register at_p3).0 ≡ Ok needs → get_or needs.depths 3 0 ≡ k → ⊥
  invented_depth needs k n e q =
      n (sym q ∙ ap (λ x. get_or x.depths 3 0) (the_needs p3 register at_p3 needs e)
      ∙ depth_is p3 register at_p3 (0 ∷ 0 ∷ 0 ∷ 1 ∷ []) cases_hold.1.1.0.0 3 (omega arith))

  pub invented_reach : (needs : Needs) → needs.reach ≢ 9 → (given p3 register at_p3).0 ≡ Ok needs → ⊥
  invented_reach needs n e = n (ap (λ x. x.reach) (the_needs p3 register at_p3 needs e) ∙ reach_is p3 register at_p3 9 cases_hold.1.1.0.1.0)
