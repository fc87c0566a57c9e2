-- The computed test holds of exactly the reachable states, and no other test does.
-- Assumes nothing.
use mathlib.Core.Path.{◌≡◌, refl, sym, subst}
use mathlib.Core.Logic.{⊎_elim}
use mathlib.Core.Bool.{Bool, true, false, not}
use Prim.Native.Nat.{ℕ, zero, suc, ◌<◌, ◌≤◌}
use native.Mathlib.Omega.{arith}
use borrow.Author.Tests.{eqb-true, eq-eqb, not-true, not-false}
use Rattle.laws.specs.Choice.{brings}
use Rattle.laws.specs.Range.{every, count}
use Rattle.laws.proofs.Tests.{by_test, agree, both_of, both_true, either_left, either_right, either_true, brings_at, brings_false}
use Rattle.laws.proofs.Range.{by_order, every_at, every_fails, some_at, some_of}
use Rattle.laws.proofs.Count.{count_some, count_strict, count_le, count_same}
use Rattle.noninterference.specs.Machine.{Machine, Closed, Reachable}
use Rattle.noninterference.specs.Reached.{reached_by, reached, Reach}
use Rattle.noninterference.proofs.Runs.{reachable_closed, reachable_in}

module _ (M : Machine) (c : Closed M (λ s. s < M.states)) where
  is_reachable : (k s : ℕ) → reached_by M k s ≡ true → Reachable M s
  unfolding reached_by
  is_reachable zero s e = subst (Reachable M) (sym (eqb-true _ _ e)) (reachable_closed M).first
  is_reachable (suc k) s e =
      ⊎_elim (is_reachable k s)
      (λ h. let f = some_at M.states _ h in
      let b = both_true _ _ f.2 in
      let g = some_at M.actions _ b.1 in
      subst (Reachable M) (eqb-true _ _ g.2) ((reachable_closed M).next f.0 g.0 (is_reachable k f.0 b.0) g.1))
      (either_true _ _ e)

  -- ---- more actions reach more, and one action more reaches every next state
  stays : (k n s : ℕ) → k ≤ n → reached_by M k s ≡ true → reached_by M n s ≡ true
  unfolding reached_by
  stays k zero s l e = let q : k ≡ 0 = omega arith in subst (λ j. reached_by M j s ≡ true) q e
  stays k (suc n) s l e =
      by_order k (suc n) (λ h. either_left _ (stays k n s (omega arith) e)) (λ h. absurd (omega arith))
      (λ q. subst (λ j. reached_by M j s ≡ true) q e)

  goes_on : (k s a : ℕ) → s < M.states → a < M.actions → reached_by M k s ≡ true → reached_by M (suc k) (M.step s a) ≡ true
  unfolding reached_by
  goes_on k s a hs ha e =
      either_right _ (some_of M.states _ s hs (both_of e (some_of M.actions _ a ha (eq-eqb (M.step s a) (M.step s a) refl))))

  start_in : (k : ℕ) → reached_by M k M.start ≡ true
  unfolding reached_by
  start_in zero = eq-eqb M.start M.start refl
  start_in (suc k) = either_left _ (start_in k)

  -- ---- a round that reaches nothing new is the last
  last : ℕ → Bool
  last k = every M.states λ s. brings (reached_by M (suc k) s) (reached_by M k s)

  last_closed : (k : ℕ) → last k ≡ true → Closed M (λ s. (s < M.states) × (reached_by M k s ≡ true))
  unfolding last
  last_closed k h = record {
    first = (c.first, start_in k);
    next = λ s a hs ha.
        let l : M.step s a < M.states = c.next s a hs.0 ha in
        (l, brings_at _ _ (every_at M.states _ h (M.step s a) l) (goes_on k s a hs.0 ha hs.1));
  }

  grows : (k : ℕ) → last k ≡ false → count M.states (reached_by M k) < count M.states (reached_by M (suc k))
  unfolding last
  grows k h =
      let f = every_fails M.states _ h in
      let b = brings_false _ _ f.2 in
      count_strict (reached_by M k) (reached_by M (suc k)) M.states (λ i _ e. stays k (suc k) i (omega arith) e) f.0 f.1 b.1 b.0

  rounds : (k : ℕ) → ((j : ℕ) → j < k → last j ≡ false) → k < count M.states (reached_by M k)
  rounds zero h = count_some M.states (reached_by M 0) M.start c.first (start_in 0)
  rounds (suc k) h =
      let a : k < count M.states (reached_by M k) = rounds k (λ j l. h j (omega arith)) in
      let b : count M.states (reached_by M k) < count M.states (reached_by M (suc k)) = grows k (h k (omega arith)) in
      omega arith

  some_last : (j : ℕ) × (j < M.states) × (last j ≡ true)
  some_last =
      by_test (every M.states (λ j. not (last j)))
      (λ e. let a : M.states < count M.states (reached_by M M.states) = rounds M.states (λ j l. not-true _ (every_at M.states _ e j l)) in
      let b : count M.states (reached_by M M.states) ≤ M.states = count_le M.states (reached_by M M.states) in
      absurd (omega arith))
      (λ e. let f = every_fails M.states _ e in (f.0, f.1, not-false _ f.2))

  pub reach : Reach M (reached M)
  unfolding reached
  reach = record {
    right = λ s l e. is_reachable M.states s e;
    all = λ s h.
        let f = some_last in
        let j : ℕ = f.0 in
        let l : j < M.states = f.1 in
        let g = reachable_in M _ (last_closed j f.2) s h in
        stays j M.states s (omega arith) g.1;
    small = reachable_in M (λ s. s < M.states) c;
  }

module _ (M : Machine) (p q : ℕ → Bool) (hp : Reach M p) (hq : Reach M q) where
  pub reach_unique : (s : ℕ) → s < M.states → p s ≡ q s
  reach_unique s l = agree (p s) (q s) (λ e. hq.all s (hp.right s l e)) (λ e. hp.all s (hq.right s l e))

  pub reach_count : count M.states p ≡ count M.states q
  reach_count = count_same M.states p q reach_unique

-- ---- a set of states is the reachable set where it holds the start, is kept by the actions, and has a run to each of its states
pub reach_by : (M : Machine) (inside : ℕ → Bool) → Closed M (λ s. (s < M.states) × (inside s ≡ true)) →
    ((s : ℕ) → s < M.states → inside s ≡ true → Reachable M s) → Reach M inside
reach_by M inside c way = record {
  right = way;
  all = λ s h. (reachable_in M (λ s. (s < M.states) × (inside s ≡ true)) c s h).1;
  small = λ s h. (reachable_in M (λ s. (s < M.states) × (inside s ≡ true)) c s h).0;
}
