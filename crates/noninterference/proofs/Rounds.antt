-- Rounds of refinement decide what runs of bounded length tell apart; a round that splits nothing is the last; the least such k
-- exists, is the only one, and lies below the number of reachable states.
-- Assumes nothing.
use mathlib.Core.Path.{◌≡◌, sym, ap, subst}
use mathlib.Core.Logic.{◌↔◌, ⊎_elim}
use mathlib.Core.Bool.{Bool, true, false}
use mathlib.Core.List.{List, [], ◌∷◌}
use Prim.Native.Nat.{ℕ, zero, suc, ◌+◌, ◌<◌, ◌≤◌, zero-le}
use native.Mathlib.Omega.{arith}
use native.Mathlib.Numerals.{add-one}
use native.Mathlib.Nat.{not-suc-le-zero, le_of_suc-le-suc}
use lib.ListN.{length}
use borrow.Author.Tests.{eqb-true, eq-eqb}
use Rattle.laws.specs.Range.{count}
use Rattle.laws.proofs.Tests.{by_test, not_both, both_of, both_true, brings_at, brings_of, brings_false}
use Rattle.laws.proofs.Range.{below_suc, by_order, every_at, every_of, every_fails, first_at}
use Rattle.laws.proofs.Count.{Equivalent, leads, leads_counts, leader, more_classes, count_some, count_mono, count_le}
use Rattle.noninterference.specs.Machine.{Machine, Run, run, Reachable}
use Rattle.noninterference.specs.Same.{Seen, Same, Within}
use Rattle.noninterference.specs.Depth.{Stable, Depth}
use Rattle.noninterference.specs.Reached.{Reach}
use Rattle.noninterference.specs.Rounds.{sees_alike, alike, stable, depth_in}
use Rattle.noninterference.proofs.Runs.{reachable_closed}
use Rattle.noninterference.proofs.Same.{within_equivalence, within_less, within_same, within_step}

module _ (M : Machine) (u : ℕ) where
  -- ---- the rounds decide
  pub seen_of : (s t : ℕ) → sees_alike M u s t ≡ true → Seen M u s t
  unfolding sees_alike
  seen_of s t h = record {
    seen = λ o ho e. eqb-true _ _ (brings_at _ _ (every_at M.observers _ h o ho) (eq-eqb _ _ e));
  }

  pub of_seen : (s t : ℕ) → Seen M u s t → sees_alike M u s t ≡ true
  unfolding sees_alike
  of_seen s t h = every_of M.observers _ (λ o ho. brings_of _ (λ e. eq-eqb _ _ (h.seen o ho (eqb-true _ _ e))))

  within_of : (k s t : ℕ) → alike M u k s t ≡ true → (r : List ℕ) → Run M r → length r ≤ k → Seen M u (run M s r) (run M t r)
  unfolding alike run
  within_of zero s t h [] hr l = seen_of s t h
  within_of zero s t h (a ∷ r) hr l = absurd (not-suc-le-zero l)
  within_of (suc k) s t h [] hr l = within_of k s t (both_true _ _ h).0 [] tt zero-le
  within_of (suc k) s t h (a ∷ r) hr l =
      within_of k (M.step s a) (M.step t a) (every_at M.actions _ (both_true _ _ h).1 a hr.0) r hr.1 (le_of_suc-le-suc l)

  of_within : (k s t : ℕ) → Within M k u s t → alike M u k s t ≡ true
  unfolding alike run
  of_within zero s t h = of_seen s t (h.within [] tt zero-le)
  of_within (suc k) s t h =
      both_of (of_within k s t (within_less M k (suc k) u s t (omega arith) h))
      (every_of M.actions _ (λ a ha. of_within k (M.step s a) (M.step t a) (within_step M k u s t a ha (rw add-one h))))

  pub alike_says : (k s t : ℕ) → (alike M u k s t ≡ true) ↔ Within M k u s t
  alike_says k s t = (λ h. record { within = within_of k s t h }, of_within k s t)

  -- ---- once a round splits nothing no later one does
  pub stable_next : (k : ℕ) → Stable M u k → Stable M u (k + 1)
  unfolding run
  stable_next k st = record { stable = λ s t hs ht h. record { within = go s t hs ht h } }
    where
      go : (s t : ℕ) → Reachable M s → Reachable M t → Within M (k + 1) u s t →
          (r : List ℕ) → Run M r → length r ≤ k + 1 + 1 → Seen M u (run M s r) (run M t r)
      go s t hs ht h [] hr l = h.within [] tt zero-le
      go s t hs ht h (a ∷ r) hr l =
          (st.stable (M.step s a) (M.step t a) ((reachable_closed M).next s a hs hr.0) ((reachable_closed M).next t a ht hr.0)
          (within_step M k u s t a hr.0 h)).within r hr.1 (omega arith)

  stable_from : (d k : ℕ) → Stable M u k → (s t : ℕ) → Reachable M s → Reachable M t → Within M k u s t → Within M (d + k) u s t
  stable_from zero k st s t hs ht h = within_less M (0 + k) k u s t (omega arith) h
  stable_from (suc d) k st s t hs ht h =
      within_less M (suc d + k) (d + (k + 1)) u s t (omega arith)
      (stable_from d (k + 1) (stable_next k st) s t hs ht (st.stable s t hs ht h))

  -- so it is sameness
  pub stable_same : (k : ℕ) → Stable M u k → (s t : ℕ) → Reachable M s → Reachable M t → Within M k u s t ↔ Same M u s t
  stable_same k st s t hs ht = (
    λ h. record { same = λ r hr. (stable_from (length r) k st s t hs ht h).within r hr (omega arith) },
    within_same M k u s t,
  )

  -- ---- there is only one depth, and without observers it is 0
  pub depth_unique : (j k : ℕ) → Depth M u j → Depth M u k → j ≡ k
  depth_unique j k dj dk =
      by_order j k (λ l. absurd (dk.least j l dj.enough)) (λ l. absurd (dj.least k l dk.enough)) (λ e. e)

  pub depth_silent : ((o : ℕ) → o < M.observers → M.watcher o ≡ u → ⊥) → Depth M u 0
  depth_silent h = record {
    enough = record { stable = λ s t hs ht w. record { within = λ r hr l. record { seen = λ o ho e. absurd (h o ho e) } } };
    least = λ j l. absurd (not-suc-le-zero l);
  }

module _ (M : Machine) (u : ℕ) (inside : ℕ → Bool) (w : Reach M inside) where
  -- ---- the test for a stable round
  stable_of : (k : ℕ) → stable M inside u k ≡ true → Stable M u k
  unfolding stable
  stable_of k h = record {
    stable = λ s t hs ht g. (alike_says M u (k + 1) s t).0
        (brings_at _ _ (every_at M.states _ (every_at M.states _ h s (w.small s hs)) t (w.small t ht))
        (both_of (both_of (w.all s hs) (w.all t ht)) ((alike_says M u k s t).1 g)));
  }

  -- two reachable states that round k + 1 tells apart
  record Split (k : ℕ) : Type 0 where
    left : ℕ
    right : ℕ
    left_small : left < M.states
    right_small : right < M.states
    left_inside : inside left ≡ true
    right_inside : inside right ≡ true
    before : alike M u k left right ≡ true
    now : alike M u (k + 1) left right ≡ false

  split_of : (k : ℕ) → stable M inside u k ≡ false → Split k
  unfolding stable
  split_of k h =
      let f = every_fails M.states _ h in
      let g = every_fails M.states _ f.2 in
      let e = brings_false _ _ g.2 in
      let b = both_true _ _ e.0 in
      let i = both_true _ _ b.0 in
      record {
        left = f.0;
        right = g.0;
        left_small = f.1;
        right_small = g.1;
        left_inside = i.0;
        right_inside = i.1;
        before = b.1;
        now = e.1;
      }

  unstable_of : (k : ℕ) → stable M inside u k ≡ false → ¬ Stable M u k
  unstable_of k e st =
      let f = split_of k e in
      not_both
      ((alike_says M u (k + 1) f.left f.right).1
      (st.stable f.left f.right (w.right f.left f.left_small f.left_inside) (w.right f.right f.right_small f.right_inside)
      ((alike_says M u k f.left f.right).0 f.before)))
      f.now

  pub stable_says : (k : ℕ) → (stable M inside u k ≡ true) ↔ Stable M u k
  stable_says k = (stable_of k, λ st. by_test (stable M inside u k) (λ e. e) (λ e. absurd (unstable_of k e st)))

  -- ---- each round that splits something makes a class more
  equivalent : (k : ℕ) → Equivalent (alike M u k)
  equivalent k = record {
    self = λ s. (alike_says M u k s s).1 ((within_equivalence M k).self u s);
    turned = λ s t h. (alike_says M u k t s).1 ((within_equivalence M k).turned u s t ((alike_says M u k s t).0 h));
    joined = λ s t x h g. (alike_says M u k s x).1
        ((within_equivalence M k).joined u s t x ((alike_says M u k s t).0 h) ((alike_says M u k t x).0 g));
  }

  classes : ℕ → ℕ
  classes k = count M.states (leads inside (alike M u k))

  more : (k : ℕ) → ¬ Stable M u k → classes k < classes (k + 1)
  unfolding classes
  more k n =
      by_test (stable M inside u k) (λ e. absurd (n (stable_of k e)))
      (λ e. let f = split_of k e in
      more_classes M.states inside (alike M u k) (alike M u (k + 1)) (equivalent k) (equivalent (k + 1))
      (λ s t h. (alike_says M u k s t).1 (within_less M k (k + 1) u s t (omega arith) ((alike_says M u (k + 1) s t).0 h)))
      f.left f.right f.left_small f.right_small f.left_inside f.right_inside f.before f.now)

  rounds : (k : ℕ) → ((j : ℕ) → j < k → ¬ Stable M u j) → k < classes k
  unfolding classes
  rounds zero h =
      let l : M.start < M.states = w.small M.start (reachable_closed M).first in
      let f = leader inside (alike M u 0) (equivalent 0) (suc M.start) M.start (omega arith) (w.all M.start (reachable_closed M).first) in
      let g : f.0 ≤ M.start = f.1 in
      count_some M.states (leads inside (alike M u 0)) f.0 (omega arith) f.2
  rounds (suc k) h =
      let a : k < classes k = rounds k (λ j l. h j (omega arith)) in
      let b : classes k < classes (k + 1) = more k (h k (omega arith)) in
      let c : classes (k + 1) ≡ classes (suc k) = ap classes (add-one k) in
      omega arith

  -- so while every round split something there are fewer rounds than reachable states
  pub fewer_rounds : (k : ℕ) → ((j : ℕ) → j < k → ¬ Stable M u j) → k < count M.states inside
  unfolding classes
  fewer_rounds k h =
      let a : k < classes k = rounds k h in
      let b : classes k ≤ count M.states inside = count_mono (leads inside (alike M u k)) inside M.states (λ i _. leads_counts inside (alike M u k) i) in
      omega arith

  pub depth_below : (k : ℕ) → Depth M u k → k < count M.states inside
  depth_below k d = fewer_rounds k d.least

  -- ---- the depth exists, and is computed
  find : (d k : ℕ) → count M.states inside ≤ d + k → ((j : ℕ) → j < k → ¬ Stable M u j) → (m : ℕ) × Depth M u m
  find zero k l h = let b : k < count M.states inside = fewer_rounds k h in absurd (omega arith)
  find (suc d) k l h =
      by_test (stable M inside u k) (λ e. (k, record { enough = stable_of k e; least = h }))
      (λ e. find d (suc k) (omega arith) (λ j lj. ⊎_elim (h j) (λ q. subst (λ x. ¬ Stable M u x) (sym q) (unstable_of k e)) (below_suc lj)))

  pub depth_is : (k : ℕ) → Depth M u k → depth_in M inside u ≡ k
  unfolding depth_in
  depth_is k d =
      let a : k < count M.states inside = depth_below k d in
      let b : count M.states inside ≤ M.states = count_le M.states inside in
      first_at M.states (stable M inside u) k (omega arith)
      (λ j l. by_test (stable M inside u j) (λ e. absurd (d.least j l (stable_of j e))) (λ e. e)) ((stable_says k).1 d.enough)

  pub depth_computed : Depth M u (depth_in M inside u)
  depth_computed =
      let f = find (count M.states inside) 0 (omega arith) (λ j l. absurd (not-suc-le-zero l)) in
      subst (Depth M u) (sym (depth_is f.0 f.1)) f.1
