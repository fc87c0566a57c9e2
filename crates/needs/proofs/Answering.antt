-- What is answered: the flags are copied, and what was sorted out and written is what the definitions say.
-- Assumes nothing.
use mathlib.Core.Path.{◌≡◌, refl, sym, ◌∙◌, ap, ap₂, subst}
use mathlib.Core.Bool.{Bool, true, false}
use mathlib.Core.List.{List, [], ◌∷◌, ◌++◌}
use Prim.Native.Nat.{ℕ, zero, suc, ◌<◌, ◌≤◌}
use native.Mathlib.Omega.{arith}
use borrow.Author.Tests.{ltb-true, ltb-false}
use lib.Dec.{eqb, ltb}
use lib.ListN.{length, set, replicate}
use lib.Seq.{ext_get_or}
use Rattle.laws.specs.Choice.{choose}
use Rattle.laws.specs.Range.{count}
use Rattle.laws.proofs.Tests.{by_test, agree, both_of, false_of}
use Rattle.noninterference.specs.Machine as noninterference
use Rattle.noninterference.specs.Machine.{Closed}
use Rattle.noninterference.specs.Reached.{Reach, reached}
use Rattle.noninterference.specs.Rounds.{depth_in, needed_in, depth_of, needed_list, arrows_from, arrows_upto}
use Rattle.noninterference.proofs.Reached.{reach, reach_count}
use Rattle.noninterference.proofs.Rounds.{depth_is, depth_computed}
use Rattle.noninterference.proofs.NeededList.{needed_says}
use Rattle.model.specs.Limits.{STATES, BOXES, NEXT_ENTRIES, OUTPUT_ENTRIES, LIST_ENTRIES}
use Rattle.model.specs.Denoted.{machine_of}
use Rattle.model.specs.Good.{GoodTable}
use Rattle.model.specs.Refused.{machine_table_fits}
use Rattle.model.specs.declared.Machine.{Machine}
use Rattle.model.proofs.Denoted.{closed}
use Rattle.reach.specs.Set.{flag_at, listed, has, size}
use Rattle.reach.specs.Answered.{flags_of}
use Rattle.reach.specs.declared.Set.{Set}
use Rattle.reach.proofs.Answered.{flags_small, flags_reach}
use Rattle.laws.proofs.Tables.{tabulated, count_beyond}
use Rattle.needs.specs.Marks.{wanted_in, SortedOut}
use Rattle.needs.specs.Rounds.{Known}
use Rattle.needs.specs.Listed.{padded, Written}
use Rattle.needs.specs.Answered.{told, depths_of, found_in, lengths_fit, needed_of, list_of}
use Rattle.std.specs.Prelude.{Ok, Err}
use Rattle.model.specs.Refusal.{refused_as}
use Rattle.model.specs.declared.refusal.Refusal.TheVariants.{Rules}

-- ---- a copy, flag by flag
pub record CopiedTo (flags from : List Bool) (n : ℕ) : Type 0 where
  pub long : length flags ≡ STATES
  pub each : (s : ℕ) → s < n → flag_at flags s ≡ flag_at from s

module _ {from : List Bool} where
  pub copied_all : {flags : List Bool} {n : ℕ} → CopiedTo flags from n → STATES ≤ n → length from ≡ STATES → flags ≡ from
  copied_all {flags} h l e = ext_get_or false flags from (h.long ∙ sym e) (λ s k. h.each s (omega (arith, h.long)))

-- ---- tests that agree give the same arrows
from_same : (p q : ℕ → ℕ → Bool) (v n : ℕ) → ((u : ℕ) → u < n → p v u ≡ q v u) → arrows_from p v n ≡ arrows_from q v n
unfolding arrows_from
from_same p q v zero h = refl
from_same p q v (suc n) h = rw (h n (omega arith), from_same p q v n (λ u l. h u (omega arith)))

upto_same : (p q : ℕ → ℕ → Bool) (n k : ℕ) → ((v u : ℕ) → v < k → u < n → p v u ≡ q v u) → arrows_upto p n k ≡ arrows_upto q n k
unfolding arrows_upto
upto_same p q n zero h = refl
upto_same p q n (suc k) h =
    ap₂ (λ x y. x ++ y) (upto_same p q n k (λ v u l. h v u (omega arith))) (from_same p q k n (λ u. h k u (omega arith)))

-- ---- any test for the reachable states computes the same
module _ (M : noninterference.Machine) (c : Closed M (λ s. s < M.states)) (inside : ℕ → Bool) (w : Reach M inside) where
  depth_same : (u : ℕ) → depth_in M inside u ≡ depth_of M u
  depth_same u = depth_is M u inside w (depth_of M u) (depth_computed M u (reached M) (reach M c))

  needed_same : (v u : ℕ) → needed_in M inside (depth_in M inside u) v u ≡ needed_in M (reached M) (depth_of M u) v u
  needed_same v u =
      let a = needed_says M inside w (depth_in M inside u) v u (depth_computed M u inside w).enough in
      let b = needed_says M (reached M) (reach M c) (depth_of M u) v u (depth_computed M u (reached M) (reach M c)).enough in
      agree _ _ (λ h. b.1 (a.0 h)) (λ h. a.1 (b.0 h))

  pub reach_same : count M.states inside ≡ count M.states (reached M)
  reach_same = reach_count M inside (reached M) w (reach M c)

  module _ {table : List Bool} {depths : List ℕ} (most : M.boxes ≤ BOXES) (h : SortedOut M inside table depths M.boxes) where
    pub depths_same : depths ≡ depths_of M
    unfolding choose
    depths_same =
        tabulated 0 BOXES _ depths h.depths_long
        (λ u l. by_test (ltb u M.boxes) (λ e. rw e (h.depth u (ltb-true _ _ e) ∙ depth_same u))
        (λ e. rw e (h.level u (ltb-false _ _ e))))

    pub arrows_same : arrows_upto (wanted_in table) M.boxes M.boxes ≡ needed_list M
    arrows_same = upto_same _ _ M.boxes M.boxes (λ v u lv lu. h.wanted v u (omega arith) lu ∙ needed_same v u)

-- ---- the whole answer
module _ (m : Machine) (next outputs : List ℕ) (g : GoodTable m next) (set : Set) (w : Known (machine_of m next outputs) (has set)) where
  pub size_same : size set ≡ count m.sizes.states (reached (machine_of m next outputs))
  size_same =
      count_beyond (has set) m.sizes.states STATES g.machine.sizes.states_most (λ s l. false_of (λ e. let k : s < m.sizes.states = w.small s e in omega arith))
      ∙ reach_same (machine_of m next outputs) (closed m next outputs g) (has set) w.reach

  pub found_is : {flags table : List Bool} {depths list : List ℕ} {n k : ℕ} → flags ≡ listed set →
      SortedOut (machine_of m next outputs) (flag_at flags) table depths m.sizes.boxes →
      Written list (arrows_upto (wanted_in table) m.sizes.boxes m.sizes.boxes) n → k ≡ size set →
      (record { count = n; reach = k; depths = depths } ≡ found_in (machine_of m next outputs)) × (list ≡ padded (needed_list (machine_of m next outputs)))
  found_is {flags} {table} {depths} {list} {n} {k} e s l z = (
    λ i. record { count = pairs i; reach = reachable i; depths = levels i },
    l.is ∙ ap padded arrows,
  )
    where
      r : Reach (machine_of m next outputs) (flag_at flags)
      r = subst (λ f. Reach (machine_of m next outputs) (flag_at f)) (sym e) w.reach

      arrows : arrows_upto (wanted_in table) m.sizes.boxes m.sizes.boxes ≡ needed_list (machine_of m next outputs)
      arrows = arrows_same (machine_of m next outputs) (closed m next outputs g) (flag_at flags) r g.machine.sizes.boxes_most s

      levels : depths ≡ depths_of (machine_of m next outputs)
      levels = depths_same (machine_of m next outputs) (closed m next outputs g) (flag_at flags) r g.machine.sizes.boxes_most s

      pairs : n ≡ length (needed_list (machine_of m next outputs))
      pairs = l.count ∙ ap length arrows

      reachable : k ≡ count m.sizes.states (reached (machine_of m next outputs))
      reachable = z ∙ size_same

module _ (m : Machine) (next outputs list : List ℕ) where
  pub needed_rules : lengths_fit next outputs list ≡ true → machine_table_fits m next ≡ false → needed_of m next outputs list ≡ Err (refused_as Rules 0)
  unfolding needed_of choose
  needed_rules e f = rw (e, f) refl

  pub list_rules : lengths_fit next outputs list ≡ true → machine_table_fits m next ≡ false → list_of m next outputs list ≡ replicate LIST_ENTRIES 0
  unfolding list_of choose
  list_rules e f = rw (e, f) refl

  pub needed_found : lengths_fit next outputs list ≡ true → machine_table_fits m next ≡ true → needed_of m next outputs list ≡ Ok (found_in (machine_of m next outputs))
  unfolding needed_of choose
  needed_found e f = rw (e, f) refl

  pub list_found : lengths_fit next outputs list ≡ true → machine_table_fits m next ≡ true → list_of m next outputs list ≡ padded (needed_list (machine_of m next outputs))
  unfolding list_of choose
  list_found e f = rw (e, f) refl

-- which length is wrong
module _ (next outputs list : List ℕ) where
  pub lengths_all : eqb (length outputs) OUTPUT_ENTRIES ≡ true → eqb (length list) LIST_ENTRIES ≡ true → eqb (length next) NEXT_ENTRIES ≡ true →
      lengths_fit next outputs list ≡ true
  unfolding lengths_fit
  lengths_all a b c = both_of a (both_of b c)

-- ---- the set that `reached` gives
pub known_of : (m : Machine) (next outputs : List ℕ) (set : Set) → length next ≡ NEXT_ENTRIES → machine_table_fits m next ≡ true →
    listed set ≡ flags_of m next → Known (machine_of m next outputs) (has set)
known_of m next outputs set e f q =
    subst (λ l. Known (machine_of m next outputs) (flag_at l)) (sym q)
    (record { small = flags_small m next outputs e f; reach = flags_reach m next outputs e f })

-- the numbers of each case: of the refusal, its line, of pairs, of reachable states
pub told_needed : (m : Machine) (next outputs list : List ℕ) →
    told (needed_of m next outputs list)
    ≡ choose (lengths_fit next outputs list)
    (choose (machine_table_fits m next)
    (0 ∷ 0 ∷ length (needed_list (machine_of m next outputs)) ∷ count m.sizes.states (reached (machine_of m next outputs)) ∷ []) (12 ∷ 0 ∷ 0 ∷ 0 ∷ []))
    (10 ∷ 0 ∷ 0 ∷ 0 ∷ [])
unfolding needed_of choose
told_needed m next outputs list =
    by_test (lengths_fit next outputs list)
    (λ e. by_test (machine_table_fits m next) (λ f. rw (e, f)) (λ f. rw (e, f)))
    (λ e. rw e)
