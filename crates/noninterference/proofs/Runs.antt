-- Runs: where they stay, how they join, and the walk that both kinds of purge share.
-- Assumes nothing.
use mathlib.Core.Path.{◌≡◌, refl, ◌∙◌, ap}
use mathlib.Core.Bool.{Bool, true, false}
use mathlib.Core.List.{List, [], ◌∷◌, ◌++◌}
use Prim.Native.Nat.{ℕ, ◌<◌}
use Rattle.laws.specs.Choice.{choose}
use Rattle.laws.specs.Lists.{All}
use Rattle.laws.proofs.Tests.{by_test}
use Rattle.noninterference.specs.Machine.{Machine, Owned, Closed, Run, run, Reachable}
use Rattle.noninterference.specs.Purge.{purge}
use Rattle.noninterference.specs.Conditions.{States, Likeness}

pub run_in : (M : Machine) (S : States) → Closed M S → (r : List ℕ) (s : ℕ) → Run M r → S s → S (run M s r)
unfolding run
run_in M S c [] s hr hs = hs
run_in M S c (a ∷ r) s hr hs = run_in M S c r (M.step s a) hr.1 (c.next s a hs hr.0)

pub run_append : (M : Machine) (p q : List ℕ) (s : ℕ) → run M s (p ++ q) ≡ run M (run M s p) q
unfolding run
run_append M [] q s = refl
run_append M (a ∷ p) q s = run_append M p q (M.step s a)

pub join_run : (M : Machine) (p q : List ℕ) → Run M p → Run M q → Run M (p ++ q)
join_run M [] q hp hq = hq
join_run M (a ∷ p) q hp hq = (hp.0, join_run M p q hp.1 hq)

pub owners_in : (M : Machine) → Owned M → (r : List ℕ) → Run M r → All (λ a. M.owner a < M.boxes) r
owners_in M w [] hr = tt
owners_in M w (a ∷ r) hr = (w.owners a hr.0, owners_in M w r hr.1)

pub purge_run : (M : Machine) (keep : ℕ → List ℕ → Bool) (r : List ℕ) → Run M r → Run M (purge keep r)
unfolding purge choose
purge_run M keep [] hr = tt
purge_run M keep (a ∷ r) hr =
    by_test (keep a r) (λ e. rw e (hr.0, purge_run M keep r hr.1)) (λ e. rw e (purge_run M keep r hr.1))

-- the reachable states hold the start and are closed under steps, and lie in every such set
pub reachable_closed : (M : Machine) → Closed M (Reachable M)
unfolding run
reachable_closed M = record {
  first = record { by = []; is_run = tt; ends = refl };
  next = λ s a h ha. record {
    by = h.by ++ (a ∷ []);
    is_run = join_run M h.by (a ∷ []) h.is_run (ha, tt);
    ends = run_append M h.by (a ∷ []) M.start ∙ ap (λ x. M.step x a) h.ends;
  };
}

pub reachable_in : (M : Machine) (S : States) → Closed M S → (s : ℕ) → Reachable M s → S s
reachable_in M S c s h = rw h.ends at (run_in M S c h.by M.start h.is_run c.first)

-- The walk over runs, over what a purge keeps. `W r` are the boxes to which two states must be alike while r is still to run.
module _ (M : Machine) (S : States) (A : Likeness) (keep : ℕ → List ℕ → Bool) (W : List ℕ → ℕ → Type 0) (c : Closed M S)
    (kept : (a : ℕ) (r : List ℕ) (s t : ℕ) → a < M.actions → S s → S t → keep a r ≡ true →
    ((v : ℕ) → W (a ∷ r) v → A v s t) → (v : ℕ) → W r v → A v (M.step s a) (M.step t a))
    (dropped : (a : ℕ) (r : List ℕ) (s t : ℕ) → a < M.actions → S s → S t → keep a r ≡ false →
    ((v : ℕ) → W (a ∷ r) v → A v s t) → (v : ℕ) → W r v → A v (M.step s a) t) where
  pub walk : (r : List ℕ) (s t : ℕ) → Run M r → S s → S t → ((v : ℕ) → W r v → A v s t) →
      (v : ℕ) → W [] v → A v (run M s r) (run M t (purge keep r))
  unfolding run purge choose
  walk [] s t hr hs ht h v w = h v w
  walk (a ∷ r) s t hr hs ht h v w =
      by_test (keep a r)
      (λ e. rw e (walk r (M.step s a) (M.step t a) hr.1 (c.next s a hs hr.0) (c.next t a ht hr.0)
      (kept a r s t hr.0 hs ht e h) v w))
      (λ e. rw e (walk r (M.step s a) t hr.1 (c.next s a hs hr.0) ht (dropped a r s t hr.0 hs ht e h) v w))
