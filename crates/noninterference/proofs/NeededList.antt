-- The computed list is the list of the needed arrows; there is only one such list, and what it cannot hold.
-- Assumes nothing.
use mathlib.Core.Path.{◌≡◌, refl, ap, subst}
use mathlib.Core.Logic.{◌↔◌}
use mathlib.Core.Bool.{Bool, true, not}
use mathlib.Core.List.{List}
use Prim.Native.Nat.{ℕ, ◌-◌, ◌*◌, ◌<◌, ◌≤◌}
use native.Mathlib.Nat.{le_refl}
use lib.ListN.{length}
use borrow.Author.Tests.{eqb-true, eq-eqb, ne_eqb, not-true}
use Rattle.laws.proofs.Tests.{not_both, both_of, both_true, without_of, without_true, false_of}
use Rattle.laws.proofs.Range.{some_at, some_of}
use Rattle.noninterference.specs.Machine.{Machine, Closed}
use Rattle.noninterference.specs.Depth.{Stable}
use Rattle.noninterference.specs.Reached.{Reach, reached}
use Rattle.noninterference.specs.Rounds.{needed_in, depth_of, needs, needed_list, arrows_upto}
use Rattle.noninterference.specs.Needed.{Needed, Arrow, arrow, Member, Once, NeededList}
use Rattle.noninterference.proofs.Runs.{reachable_closed}
use Rattle.noninterference.proofs.Same.{within_same}
use Rattle.noninterference.proofs.Rounds.{alike_says, stable_same, depth_computed}
use Rattle.noninterference.proofs.Reached.{reach}
use Rattle.noninterference.proofs.Ascending.{ascending_unique, ascending_once, upto_only, upto_each, upto_ascending, upto_length}

-- ---- the test, after a round that splits nothing
module _ (M : Machine) (inside : ℕ → Bool) (w : Reach M inside) (k v u : ℕ) (st : Stable M u k) where
  needed_of_lem : needed_in M inside k v u ≡ true → Needed M v u
  unfolding needed_in
  needed_of_lem h =
      let b = both_true _ _ h in
      let f = some_at M.states _ b.1 in
      let i = both_true _ _ f.2 in
      let g = some_at M.actions _ i.1 in
      let t = without_true _ _ g.2 in
      record {
        other = λ e. not_both (eq-eqb v u e) (not-true _ b.0);
        state = f.0;
        action = g.0;
        reachable = w.right f.0 f.1 i.0;
        of_machine = g.1;
        of_source = eqb-true _ _ t.0;
        told_apart = λ h. not_both ((alike_says M u k _ _).1 (within_same M k u _ _ h)) t.1;
      }

  of_needed : Needed M v u → needed_in M inside k v u ≡ true
  unfolding needed_in
  of_needed n =
      both_of (ap not (ne_eqb v u n.other))
      (some_of M.states _ n.state (w.small n.state n.reachable)
      (both_of (w.all n.state n.reachable)
      (some_of M.actions _ n.action n.of_machine
      (without_of (eq-eqb _ _ n.of_source)
      (false_of (λ e. n.told_apart
      ((stable_same M u k st n.state (M.step n.state n.action) n.reachable
      ((reachable_closed M).next n.state n.action n.reachable n.of_machine)).0 ((alike_says M u k _ _).0 e))))))))

  pub needed_says : (needed_in M inside k v u ≡ true) ↔ Needed M v u
  needed_says = (needed_of_lem, of_needed)

-- ---- the list
-- there is only one list
pub list_unique : (M : Machine) (l m : List Arrow) → NeededList M l → NeededList M m → l ≡ m
list_unique M l m hl hm =
    ascending_unique l m hl.ascending hm.ascending
    (λ x i. let f = hl.only x.source x.target i in hm.each x.source x.target f.0 f.1 f.2)
    (λ x i. let f = hm.only x.source x.target i in hl.each x.source x.target f.0 f.1 f.2)

-- the arrows that the test finds, after enough rounds for each target
pub list_computed : (M : Machine) (inside : ℕ → Bool) → Reach M inside → (depth : ℕ → ℕ) → ((u : ℕ) → u < M.boxes → Stable M u (depth u)) →
    NeededList M (arrows_upto (λ v u. needed_in M inside (depth u) v u) M.boxes M.boxes)
list_computed M inside w depth st = record {
  only = λ v u m. let f = upto_only test M.boxes M.boxes (arrow v u) m in
      (f.0, f.1, (needed_says M inside w (depth u) v u (st u f.1)).0 f.2);
  each = λ v u hv hu n. upto_each test M.boxes M.boxes v u hv hu ((needed_says M inside w (depth u) v u (st u hu)).1 n);
  ascending = upto_ascending test M.boxes M.boxes;
}
  where
    test : ℕ → ℕ → Bool
    test v u = needed_in M inside (depth u) v u

module _ (M : Machine) (c : Closed M (λ s. s < M.states)) where
  pub needed_list_lem : NeededList M (needed_list M)
  needed_list_lem = list_computed M (reached M) (reach M c) (depth_of M) (λ u hu. (depth_computed M u (reached M) (reach M c)).enough)

  computed_length : length (needed_list M) ≤ M.boxes * (M.boxes - 1)
  computed_length =
      upto_length (needs M) M.boxes (λ v l. false_of (λ e. ((needed_says M (reached M) (reach M c) (depth_of M v) v v (depth_computed M v (reached M) (reach M c)).enough).0 e).other refl)) M.boxes (le_refl M.boxes)

  pub list_length : (l : List Arrow) → NeededList M l → length l ≤ M.boxes * (M.boxes - 1)
  list_length l h = subst (λ x. length x ≤ M.boxes * (M.boxes - 1)) (list_unique M (needed_list M) l needed_list_lem h) computed_length

-- no self-arrow, and no arrow twice
pub no_self : (M : Machine) (l : List Arrow) → NeededList M l → (u : ℕ) → Member (arrow u u) l → ⊥
no_self M l h u m = (h.only u u m).2.other refl

pub once : (M : Machine) (l : List Arrow) → NeededList M l → Once l
once M l h = ascending_once l h.ascending
