-- Plain security is that the policy has every needed arrow. One half is Theorem 6, the other Theorem 1 at sameness.
-- Assumes nothing.
use mathlib.Core.Path.{◌≡◌, refl, sym, ◌∙◌, ap, subst}
use mathlib.Core.Logic.{◌↔◌, by_cases}
use mathlib.Core.Bool.{true, false}
use mathlib.Core.List.{List, [], ◌∷◌, ◌++◌}
use Prim.Native.Nat.{ℕ}
use native.Mathlib.Decide.{ℕ_discrete}
use Rattle.laws.specs.Choice.{choose}
use Rattle.laws.proofs.Tests.{by_test, not_both}
use Rattle.noninterference.specs.Machine.{Machine, Owned, run, after, Reachable}
use Rattle.noninterference.specs.Purge.{Policy, plain, purge, keeps}
use Rattle.noninterference.specs.Secure.{Secure, Reflexive}
use Rattle.noninterference.specs.Conditions.{Respect}
use Rattle.noninterference.specs.Same.{Same}
use Rattle.noninterference.specs.Needed.{Covers}
use Rattle.noninterference.proofs.Runs.{run_append, join_run, reachable_closed}
use Rattle.noninterference.proofs.Unwinding.{unwinding}
use Rattle.noninterference.proofs.Same.{same_equivalence, same_output, same_step}

-- an action that is dropped leaves no trace in a plain purge
drops_one : (owner : ℕ → ℕ) (interferes : Policy) (u a : ℕ) (p r : List ℕ) → interferes (owner a) u ≡ false →
    purge (keeps plain owner interferes u) (p ++ (a ∷ r)) ≡ purge (keeps plain owner interferes u) (p ++ r)
unfolding purge keeps choose
drops_one owner interferes u a [] r e = rw e
drops_one owner interferes u a (b ∷ p) r e =
    by_test (interferes (owner b) u)
    (λ q. rw q (ap (λ l. b ∷ l) (drops_one owner interferes u a p r e))) (λ q. rw q (drops_one owner interferes u a p r e))

module _ (M : Machine) (interferes : Policy) (w : Owned M) where
  -- Theorem 6: a secure machine's sameness locally respects the policy
  pub respect_of_secure : Secure plain M interferes → Respect M (Reachable M) interferes (Same M)
  unfolding run
  respect_of_secure sec = record {
    respect = λ u a s hu ha hs e. record {
      same = λ r hr. record {
        seen = λ o ho eo.
            let p : List ℕ = hs.by in
            let dropped : interferes (M.owner a) (M.watcher o) ≡ false = subst (λ x. interferes (M.owner a) x ≡ false) (sym eo) e in
            subst (λ x. M.sees (run M x r) o ≡ M.sees (run M (M.step x a) r) o) hs.ends
            (subst (λ x. M.sees x o ≡ M.sees (run M (M.step (after M p) a) r) o) (run_append M p r M.start)
            (subst (λ x. M.sees (after M (p ++ r)) o ≡ M.sees x o) (run_append M p (a ∷ r) M.start)
            (sec.equal (p ++ r) (join_run M p r hs.is_run hr) o ho
            ∙ ap (λ l. M.sees (after M l) o) (sym (drops_one M.owner interferes (M.watcher o) a p r dropped))
            ∙ sym (sec.equal (p ++ (a ∷ r)) (join_run M p (a ∷ r) hs.is_run (ha, hr)) o ho))));
      };
    };
  }

  -- Theorem 1, sameness being the view
  pub secure_of_respect : Respect M (Reachable M) interferes (Same M) → Secure plain M interferes
  secure_of_respect h =
      unwinding M (Reachable M) interferes (Same M) (reachable_closed M) w (same_equivalence M) plain
      (record { output = same_output M (Reachable M); respect = h; step = same_step M (Reachable M) })

  covers_of_respect : Respect M (Reachable M) interferes (Same M) → Covers M interferes
  covers_of_respect h = record {
    covers = λ v u hv hu n. by_test (interferes v u) (λ e. e)
        (λ e. absurd (n.told_apart (h.respect u n.action n.state hu n.of_machine n.reachable
        (subst (λ x. interferes x u ≡ false) (sym n.of_source) e))));
  }

  -- what is observed is a number, so that a difference which cannot be is none
  respect_of_covers : Reflexive M interferes → Covers M interferes → Respect M (Reachable M) interferes (Same M)
  respect_of_covers self c = record {
    respect = λ u a s hu ha hs e. record {
      same = λ r hr. record {
        seen = λ o ho eo.
            by_cases (ℕ_discrete (M.sees (run M s r) o) (M.sees (run M (M.step s a) r) o)) (λ p. p)
            (λ n. not_both
            (c.covers (M.owner a) u (w.owners a ha) hu (record {
              other = λ q. not_both (subst (λ x. interferes x u ≡ true) (sym q) (self u hu)) e;
              state = s;
              action = a;
              reachable = hs;
              of_machine = ha;
              of_source = refl;
              told_apart = λ h. n ((h.same r hr).seen o ho eo);
            }))
            e);
      };
    };
  }

  -- demand 3's heart
  pub secure↔covers : Reflexive M interferes → Secure plain M interferes ↔ Covers M interferes
  secure↔covers self =
      (λ sec. covers_of_respect (respect_of_secure sec), λ c. secure_of_respect (respect_of_covers self c))
