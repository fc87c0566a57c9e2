-- The cases hold: one computed test over the table, and the law for each row.
-- Assumes nothing.
use mathlib.Core.Path.{◌≡◌, refl}
use mathlib.Core.Bool.{Bool, true, false}
use mathlib.Core.List.{List, [], ◌∷◌}
use mathlib.Core.Option.{Option, some}
use Prim.Native.Nat.{ℕ}
use Rattle.laws.specs.Choice.{both, either, brings, without, choose, when, or_else}
use Rattle.laws.specs.Search.{first_of}
use Rattle.laws.specs.Range as range
use Rattle.laws.specs.Lists.{any, elem}
use Rattle.laws.proofs.Tests.{both_true, not_both}
use Rattle.noninterference.specs.Machine.{run}
use Rattle.noninterference.specs.Purge.{purge, keeps, sources}
use Rattle.noninterference.specs.Judged as searches
use Rattle.noninterference.specs.Judged.{leaks, moves, alike_too, tears, first_output, first_respect, first_step}
use Rattle.noninterference.specs.Reached.{Reach}
use Rattle.noninterference.specs.Rounds.{sees_alike, alike, stable, needed_in, arrows_from, arrows_upto}
use Rattle.model.specs.Refused.{sized, sizes_fit, owners_fit, machine_fits, next_fits, ids_fit, row_fits, arrows_fit, selves_fit, drawing_fits, machine_table_fits, model_fits, model_table_fits}
use Rattle.register.specs.Tables.{column, by_state, by_box, draws}
use Rattle.laws.specs.Sets.{has, including}
use Rattle.model.specs.Arrows.{selves}
use Rattle.purge.specs.Purged.{names_actions, asked, kept_of}
use Rattle.needs.specs.Listed.{flat}
use Rattle.cases.specs.Cases.{Case, Claim, judged, needed, depths, reach, purged, cases}
use Rattle.cases.specs.Meets.{Holds, AllHold, AllMeet, machine}
use Rattle.cases.proofs.Same.{same_list}
use Rattle.cases.proofs.Computed.{good, judged_right, judged_right_lem, purged_right, purged_right_lem}
use Rattle.cases.proofs.Needs as needs
use Rattle.cases.proofs.Needs.{Certificate, reach_right, depths_right, needed_right, depths_listed, reach_counted, needed_right_lem, depths_right_lem, reach_right_lem, leads, ids_right, inside, reaches}

-- a claim passes its test
unfoldable right : Case → Certificate → Claim → Bool
right c k (judged v) = judged_right c v
right c k (needed ps) = needed_right c k ps
right c k (depths ds) = depths_listed c k ds
right c k (reach n) = reach_counted c k n
right c k (purged run id kept) = purged_right c run id kept

unfoldable all_right : Case → Certificate → List Claim → Bool
all_right c k [] = true
all_right c k (x ∷ xs) = both (right c k x) (all_right c k xs)

unfoldable holds : Case → Certificate → Bool
holds c k = both (good c) (both (reach_right c k) (both (depths_right c k) (all_right c k c.claims)))

module _ (c : Case) (k : Certificate) (g : good c ≡ true) (r : reach_right c k ≡ true) (d : depths_right c k ≡ true) where
  claim : (x : Claim) → right c k x ≡ true → Holds c x
  unfolding right
  claim (judged v) h = judged_right_lem c g v h
  claim (needed ps) h = needed_right_lem c k g r d ps h
  claim (depths ds) h = depths_right_lem c k g r d ds h
  claim (reach n) h = reach_right_lem c k g r d n h
  claim (purged run id kept) h = purged_right_lem c run id kept h

  claims : (xs : List Claim) → all_right c k xs ≡ true → AllHold c xs
  unfolding all_right
  claims [] h = tt
  claims (x ∷ xs) h = let b = both_true _ _ h in (claim x b.0, claims xs b.1)

meets : (c : Case) (k : Certificate) → holds c k ≡ true → AllHold c c.claims
unfolding holds
meets c k h =
    let a = both_true _ _ h in
    let b = both_true _ _ a.1 in
    let d = both_true _ _ b.1 in
    claims c k a.0 b.0 d.0 c.claims d.1

-- ---- a run to each reachable state, and the depths: of the register machine, with X's output u + v, and of the small models
abbrev pub register_ways : List (Option (List ℕ))
register_ways =
    some [] ∷ some (0 ∷ []) ∷ some (0 ∷ 2 ∷ []) ∷ some (1 ∷ []) ∷ some (1 ∷ 2 ∷ []) ∷ some (0 ∷ 1 ∷ []) ∷ some (0 ∷ 2 ∷ 1 ∷ [])
    ∷ some (1 ∷ 2 ∷ 0 ∷ []) ∷ some (0 ∷ 1 ∷ 2 ∷ []) ∷ []

abbrev pub register : Certificate
register = record { ways = register_ways; depths = 0 ∷ 0 ∷ 0 ∷ 1 ∷ [] }

abbrev pub direct : Certificate
direct = record { ways = register_ways; depths = 0 ∷ 0 ∷ 0 ∷ 0 ∷ [] }

abbrev pub single : List ℕ → Certificate
single ds = record { ways = some [] ∷ []; depths = ds }

abbrev pub chain : Certificate
chain = record { ways = some [] ∷ some (0 ∷ []) ∷ some (0 ∷ 1 ∷ []) ∷ some (0 ∷ 1 ∷ 1 ∷ []) ∷ []; depths = 0 ∷ 2 ∷ [] }

abbrev pub certificates : List Certificate
certificates =
    register ∷ register ∷ register ∷ direct ∷ register ∷ register ∷ register ∷ register ∷ register
    ∷ single (0 ∷ []) ∷ single (0 ∷ 0 ∷ []) ∷ chain ∷ register ∷ []

unfoldable all_hold : List Case → List Certificate → Bool
all_hold [] ks = true
all_hold (c ∷ cs) [] = false
all_hold (c ∷ cs) (k ∷ ks) = both (holds c k) (all_hold cs ks)

all_meet : (cs : List Case) (ks : List Certificate) → all_hold cs ks ≡ true → AllMeet cs
unfolding all_hold
all_meet [] ks h = tt
all_meet (c ∷ cs) [] h = not_both h refl
all_meet (c ∷ cs) (k ∷ ks) h = let b = both_true _ _ h in (meets c k b.0, all_meet cs ks b.1)

computed : all_hold cases certificates ≡ true
unfolding all_hold holds all_right right good judged_right purged_right reach_right depths_right needed_right depths_listed reach_counted needs.names_actions leads ids_right same_list both either brings without choose when or_else first_of range.every range.some range.count range.first range.tabulate any elem run purge keeps sources leaks moves alike_too tears first_output first_respect first_step searches.judged sees_alike alike stable needed_in arrows_from arrows_upto sized sizes_fit owners_fit machine_fits next_fits ids_fit row_fits arrows_fit selves_fit drawing_fits machine_table_fits model_fits model_table_fits column by_state by_box selves draws has including names_actions asked kept_of flat
computed = refl

pub cases_hold : AllMeet cases
cases_hold = all_meet cases certificates computed

-- ---- no case is refused, and the runs of its certificate lead to the states that are reachable
abbrev pub Sound : Case → Certificate → Type 0
Sound c k = (good c ≡ true) × Reach (machine c) (inside k)

abbrev pub AllSound : List Case → List Certificate → Type 0
AllSound [] ks = Unit {0}
AllSound (c ∷ cs) [] = ⊥
AllSound (c ∷ cs) (k ∷ ks) = Sound c k × AllSound cs ks

is_sound : (c : Case) (k : Certificate) → holds c k ≡ true → Sound c k
unfolding holds
is_sound c k h =
    let a = both_true _ _ h in
    let b = both_true _ _ a.1 in
    (a.0, reaches c k a.0 b.0 (both_true _ _ b.1).0)

all_sound : (cs : List Case) (ks : List Certificate) → all_hold cs ks ≡ true → AllSound cs ks
unfolding all_hold
all_sound [] ks h = tt
all_sound (c ∷ cs) [] h = not_both h refl
all_sound (c ∷ cs) (k ∷ ks) h = let b = both_true _ _ h in (is_sound c k b.0, all_sound cs ks b.1)

pub cases_sound : AllSound cases certificates
cases_sound = all_sound cases certificates computed
