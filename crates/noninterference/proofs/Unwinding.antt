-- The unwinding theorem over the kind of purge: Theorem 1 is its plain instance, Theorem 7 its intransitive one.
-- Assumes nothing.
use mathlib.Core.Path.{◌≡◌, refl, sym, ◌∙◌, subst}
use mathlib.Core.Bool.{Bool, true, false}
use mathlib.Core.List.{List}
use Prim.Native.Nat.{ℕ, ◌<◌}
use Rattle.laws.specs.Lists.{elem}
use Rattle.laws.proofs.Lists.{any_false}
use Rattle.noninterference.specs.Machine.{Machine, Closed, Owned, Run, after}
use Rattle.noninterference.specs.Purge.{Policy, Kind, plain, intransitive, purge, sources, keeps}
use Rattle.noninterference.specs.Secure.{Secure, SecureFor}
use Rattle.noninterference.specs.Conditions.{States, Likeness, Equivalence, ByView, Output, Conditions}
use Rattle.noninterference.proofs.Runs.{walk, run_in, purge_run}
use Rattle.noninterference.proofs.Sources.{source_self, source_stays, dropped_of}

module _ (M : Machine) (S : States) (interferes : Policy) (A : Likeness) (c : Closed M S) (w : Owned M) (q : Equivalence A) where
  -- Lemmas 1 and 2: runs that end alike to the observer's box are seen alike
  ends_alike : (keep : ℕ → ℕ → List ℕ → Bool) → Output M S A →
      ((u : ℕ) → u < M.boxes → (r : List ℕ) → Run M r → A u (after M r) (after M (purge (keep u) r))) → SecureFor M keep
  ends_alike keep out h = record {
    equal = λ r hr o ho.
        out.output o _ _ ho (run_in M S c r M.start hr c.first)
        (run_in M S c _ M.start (purge_run M (keep (M.watcher o)) r hr) c.first)
        (h (M.watcher o) (w.watchers o ho) r hr);
  }

  -- states alike to v, one of which an action that must not interfere with v has moved, stay alike to v
  moved_alike : (v s a t : ℕ) → A v s (M.step s a) → A v s t → A v (M.step s a) t
  moved_alike v s a t h g = q.joined v (M.step s a) s t (q.turned v s (M.step s a) h) g

  -- Theorem 1's induction (2.1), and Lemma 5
  pub runs_alike : (kind : Kind) → Conditions kind M S interferes A → (u : ℕ) → u < M.boxes → (r : List ℕ) → Run M r →
      A u (after M r) (after M (purge (keeps kind M.owner interferes u) r))
  unfolding keeps
  runs_alike plain k u hu r hr =
      walk M S A (keeps plain M.owner interferes u) (λ r v. v ≡ u) c
      (λ a r s t ha hs ht e h v hv. k.step.step v a s t (box v hv) ha hs ht (h v hv))
      (λ a r s t ha hs ht e h v hv.
      moved_alike v s a t (k.respect.respect v a s (box v hv) ha hs (subst (λ x. interferes (M.owner a) x ≡ false) (sym hv) e)) (h v hv))
      r M.start M.start hr c.first c.first (λ v _. q.self v M.start) u refl
    where
      box : (v : ℕ) → v ≡ u → v < M.boxes
      box v hv = subst (λ x. x < M.boxes) (sym hv) hu
  runs_alike intransitive k u hu r hr =
      walk M S A (keeps intransitive M.owner interferes u)
      (λ r v. (v < M.boxes) × (elem v (sources M.owner interferes u r) ≡ true)) c
      (λ a r s t ha hs ht e h v hv.
      k.step.step v a s t hv.0 ha hs ht (h v (hv.0, source_stays M.owner interferes u a r v hv.1)) (h (M.owner a) (w.owners a ha, e)))
      (λ a r s t ha hs ht e h v hv.
      moved_alike v s a t (k.respect.respect v a s hv.0 ha hs (any_false _ _ v (dropped_of M.owner interferes u a r e) hv.1))
      (h v (hv.0, source_stays M.owner interferes u a r v hv.1)))
      r M.start M.start hr c.first c.first (λ v _. q.self v M.start) u (hu, source_self M.owner interferes u)

  -- Theorems 1 and 7
  pub unwinding : (kind : Kind) → Conditions kind M S interferes A → Secure kind M interferes
  unwinding kind k = ends_alike (keeps kind M.owner interferes) k.output (runs_alike kind k)

-- a view makes an equivalence
pub by_view : (view : ℕ → ℕ → ℕ) → Equivalence (ByView view)
by_view view = record { self = λ u s. refl; turned = λ u s t p. sym p; joined = λ u s t r p q. p ∙ q }
