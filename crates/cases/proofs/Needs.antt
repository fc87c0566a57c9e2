-- The needed arrows, the depths and the reachable states of a case, from tests that are handed a run to each reachable state.
-- Assumes nothing.
use mathlib.Core.Path.{◌≡◌, refl, ◌∙◌, ap, subst}
use mathlib.Core.Bool.{Bool, true, false, not}
use mathlib.Core.List.{List, [], ◌∷◌}
use mathlib.Core.Option.{Option, none}
use mathlib.Core.Option as option
use Prim.Native.Nat.{ℕ, suc, ◌<◌}
use lib.Dec.{eqb, ltb}
use lib.ListN.{length, get_or}
use borrow.Author.Tests.{eqb-true, eq-eqb, ltb-true, not-true}
use Rattle.laws.specs.Choice.{both, brings, choose}
use Rattle.laws.specs.Range.{every, count, tabulate}
use Rattle.laws.specs.Lists.{All}
use Rattle.laws.proofs.Tests.{both_true, both_of, brings_at, by_test, not_both}
use Rattle.laws.proofs.Range.{every_at, tabulate_same}
use Rattle.noninterference.specs.Machine as noninterference
use Rattle.noninterference.specs.Machine.{run, Reachable, Closed}
use Rattle.noninterference.specs.Needed.{Arrow, arrow, NeededList}
use Rattle.noninterference.specs.Depth.{Depth}
use Rattle.noninterference.specs.Reached.{Reach, reached}
use Rattle.noninterference.specs.Rounds.{stable, needed_in, arrows_upto, needed_list, depth_of}
use Rattle.noninterference.proofs.Reached.{reach, reach_by, reach_count}
use Rattle.noninterference.proofs.Rounds.{stable_says, depth_is}
use Rattle.noninterference.proofs.NeededList.{list_computed, list_unique, needed_list_lem}
use Rattle.model.specs.Limits.{BOXES, LIST_ENTRIES}
use Rattle.model.specs.Refused.{model_table_fits, machine_table_fits}
use Rattle.model.proofs.Good.{table_good}
use Rattle.model.proofs.Denoted.{closed}
use Rattle.views.specs.Judgement as views
use Rattle.register.specs.Tables.{full}
use Rattle.needs.specs.Listed.{flat, padded}
use Rattle.std.specs.Prelude.{Ok}
use Rattle.needs.specs.Answered.{needed_of, list_of, lengths_fit, told, found_in}
use Rattle.cases.specs.Cases.{Case}
use Rattle.cases.specs.Meets.{next, outputs, machine, state, id_at, at, arrows_of, IdsKnown, NeedsThese, DepthsAre, ReachIs}
use Rattle.cases.proofs.Same.{same_list, same_list_lem}
use Rattle.cases.proofs.Computed.{good, fits, lengths}

-- a run to each reachable state, none to the others, and the depths
pub record Certificate : Type 0 where
  pub ways : List (Option (List ℕ))
  pub depths : List ℕ

abbrev is_some : Option (List ℕ) → Bool
is_some none = false
is_some (option.some r) = true

abbrev pub inside : Certificate → ℕ → Bool
inside k s = is_some (get_or k.ways s none)

unfoldable pub names_actions : ℕ → List ℕ → Bool
names_actions actions [] = true
names_actions actions (a ∷ r) = both (ltb a actions) (names_actions actions r)

-- the run ends in s
unfoldable pub leads : noninterference.Machine → ℕ → Option (List ℕ) → Bool
leads M s none = true
leads M s (option.some r) = both (names_actions M.actions r) (eqb (run M M.start r) s)

unfoldable pub reach_right : Case → Certificate → Bool
reach_right c k =
    both (inside k c.model.machine.sizes.start)
    (both (every c.model.machine.sizes.states λ s. brings (inside k s) (every c.model.machine.sizes.actions λ a. inside k ((machine c).step s a)))
    (every c.model.machine.sizes.states λ s. leads (machine c) s (get_or k.ways s none)))

-- each depth is stable, and nothing less is
unfoldable pub depths_right : Case → Certificate → Bool
depths_right c k =
    every c.model.machine.sizes.boxes λ u.
    both (stable (machine c) (inside k) u (get_or k.depths u 0)) (every (get_or k.depths u 0) λ j. not (stable (machine c) (inside k) u j))

abbrev computed : Case → Certificate → List Arrow
computed c k =
    arrows_upto (λ v u. needed_in (machine c) (inside k) (get_or k.depths u 0) v u) c.model.machine.sizes.boxes c.model.machine.sizes.boxes

unfoldable pub ids_right : Case → List (ℕ × ℕ) → Bool
ids_right c [] = true
ids_right c (p ∷ ps) = both (eqb (id_at c (at c p.0)) p.0) (both (eqb (id_at c (at c p.1)) p.1) (ids_right c ps))

unfoldable pub needed_right : Case → Certificate → List (ℕ × ℕ) → Bool
needed_right c k ps = both (ids_right c ps) (same_list (flat (computed c k)) (flat (arrows_of c ps)))

unfoldable pub depths_listed : Case → Certificate → List ℕ → Bool
depths_listed c k ds =
    both (same_list k.depths ds)
    (same_list (tabulate BOXES λ u. choose (ltb u c.model.machine.sizes.boxes) (get_or ds u 0) 0) (full BOXES ds))

unfoldable pub reach_counted : Case → Certificate → ℕ → Bool
reach_counted c k n = eqb (count c.model.machine.sizes.states (inside k)) n

named : (actions : ℕ) (r : List ℕ) → names_actions actions r ≡ true → All (λ a. a < actions) r
unfolding names_actions
named actions [] e = tt
named actions (a ∷ r) e = let b = both_true _ _ e in (ltb-true _ _ b.0, named actions r b.1)

way_leads : (M : noninterference.Machine) (s : ℕ) (w : Option (List ℕ)) → leads M s w ≡ true → is_some w ≡ true → Reachable M s
unfolding leads
way_leads M s none e i = not_both i refl
way_leads M s (option.some r) e i =
    let b = both_true _ _ e in record { by = r; is_run = named M.actions r b.0; ends = eqb-true _ _ b.1 }

flat_same : (l m : List Arrow) → flat l ≡ flat m → l ≡ m
unfolding flat
flat_same [] [] e = refl
flat_same [] (y ∷ ys) e = cc
flat_same (x ∷ xs) [] e = cc
flat_same (x ∷ xs) (y ∷ ys) e =
    let s : x.source ≡ y.source = cc in
    let t : x.target ≡ y.target = cc in
    let h : flat xs ≡ flat ys = cc in
    let r : xs ≡ ys = flat_same xs ys h in
    let a : arrow x.source x.target ≡ arrow y.source y.target = cc in
    cc

arrows_length : (c : Case) (ps : List (ℕ × ℕ)) → length (arrows_of c ps) ≡ length ps
arrows_length c [] = refl
arrows_length c (p ∷ ps) = ap suc (arrows_length c ps)

ids_known : (c : Case) (ps : List (ℕ × ℕ)) → ids_right c ps ≡ true → IdsKnown c ps
unfolding ids_right
ids_known c [] e = tt
ids_known c (p ∷ ps) e =
    let a = both_true _ _ e in let b = both_true _ _ a.1 in (eqb-true _ _ a.0, eqb-true _ _ b.0, ids_known c ps b.1)

module _ (c : Case) (k : Certificate) (g : good c ≡ true) (r : reach_right c k ≡ true) (d : depths_right c k ≡ true) where
  table_fits : machine_table_fits c.model.machine (next c) ≡ true
  unfolding model_table_fits
  table_fits = (both_true _ _ (fits c g)).0

  in_states : Closed (machine c) (state c)
  in_states = closed c.model.machine (next c) (outputs c) ((table_good _ _).0 table_fits)

  pub reaches : Reach (machine c) (inside k)
  unfolding reach_right
  reaches =
      let a = both_true _ _ r in
      let b = both_true _ _ a.1 in
      reach_by (machine c) (inside k)
      (record {
        first = (in_states.first, a.0);
        next = λ s x hs hx. (in_states.next s x hs.0 hx, every_at _ _ (brings_at _ _ (every_at _ _ b.0 s hs.0) hs.1) x hx);
      })
      (λ s l e. way_leads (machine c) s (get_or k.ways s none) (every_at _ _ b.1 s l) e)

  depth_right : (u : ℕ) → u < c.model.machine.sizes.boxes → Depth (machine c) u (get_or k.depths u 0)
  unfolding depths_right
  depth_right u l =
      let b = both_true _ _ (every_at _ _ d u l) in
      record {
        enough = (stable_says (machine c) u (inside k) reaches _).0 b.0;
        least = λ j lj st. not_both ((stable_says (machine c) u (inside k) reaches j).1 st) (not-true _ (every_at _ _ b.1 j lj));
      }

  depth_of_lem : (u : ℕ) → u < c.model.machine.sizes.boxes → depth_of (machine c) u ≡ get_or k.depths u 0
  depth_of_lem u l = depth_is (machine c) u (reached (machine c)) (reach (machine c) in_states) _ (depth_right u l)

  -- ---- what the call answers
  module _ (l : List ℕ) (long : length l ≡ LIST_ENTRIES) where
    lent : lengths_fit (next c) (outputs c) l ≡ true
    unfolding lengths_fit views.lengths_fit
    lent =
        let a = both_true _ _ (lengths c g) in
        let b = both_true _ _ a.1 in
        both_of b.0 (both_of (eq-eqb _ _ long) a.0)

    answers : needed_of c.model.machine (next c) (outputs c) l ≡ Ok (found_in (machine c))
    unfolding needed_of choose
    answers = rw (lent, table_fits)

    lists : list_of c.model.machine (next c) (outputs c) l ≡ padded (needed_list (machine c))
    unfolding list_of choose
    lists = rw (lent, table_fits)

  pub needed_right_lem : (ps : List (ℕ × ℕ)) → needed_right c k ps ≡ true → NeedsThese c ps
  unfolding needed_right
  needed_right_lem ps h =
      let b = both_true _ _ h in
      let e : computed c k ≡ arrows_of c ps = flat_same _ _ (same_list_lem _ _ b.1) in
      let w : NeededList (machine c) (arrows_of c ps) =
      subst (NeededList (machine c)) e (list_computed (machine c) (inside k) reaches (λ u. get_or k.depths u 0) (λ u l. (depth_right u l).enough)) in
      let q : needed_list (machine c) ≡ arrows_of c ps = list_unique (machine c) _ _ (needed_list_lem (machine c) in_states) w in (
        w,
        ids_known c ps b.0,
        λ l long. (
          lists l long ∙ ap padded q,
          ap (λ n. get_or (told n) 2 0) (answers l long) ∙ ap length q ∙ arrows_length c ps,
        ),
      )

  pub depths_right_lem : (ds : List ℕ) → depths_listed c k ds ≡ true → DepthsAre c ds
  unfolding depths_listed choose
  depths_right_lem ds h =
      let b = both_true _ _ h in
      let e : k.depths ≡ ds = same_list_lem _ _ b.0 in (
        λ u l. subst (λ x. Depth (machine c) u (get_or x u 0)) e (depth_right u l),
        λ l long. rw (answers l long) (tabulate_same BOXES _ _ (λ u _. within ds e u) ∙ same_list_lem _ _ b.1),
      )
    where
      within : (ds : List ℕ) → k.depths ≡ ds → (u : ℕ) →
          choose (ltb u c.model.machine.sizes.boxes) (depth_of (machine c) u) 0 ≡ choose (ltb u c.model.machine.sizes.boxes) (get_or ds u 0) 0
      within ds e u =
          by_test (ltb u c.model.machine.sizes.boxes)
          (λ q. ap (λ x. choose (ltb u c.model.machine.sizes.boxes) x 0) (depth_of_lem u (ltb-true _ _ q) ∙ ap (λ x. get_or x u 0) e))
          (λ q. rw q)

  pub reach_right_lem : (n : ℕ) → reach_counted c k n ≡ true → ReachIs c n
  unfolding reach_counted
  reach_right_lem n h =
      let e : count c.model.machine.sizes.states (inside k) ≡ n = eqb-true _ _ h in (
        λ p w. reach_count (machine c) p (inside k) w reaches ∙ e,
        λ l long. ap (λ x. get_or (told x) 3 0) (answers l long)
            ∙ reach_count (machine c) (reached (machine c)) (inside k) (reach (machine c) in_states) reaches ∙ e,
      )
