-- Sameness is an equivalence that meets the conditions of the unwinding theorem, all but local respect (Theorem 6).
-- Assumes nothing.
use mathlib.Core.Path.{refl, sym, ◌∙◌}
use mathlib.Core.List.{[], ◌∷◌}
use Prim.Native.Nat.{ℕ, ◌+◌, ◌<◌, ◌≤◌}
use native.Mathlib.Omega.{arith}
use Rattle.noninterference.specs.Machine.{Machine, run}
use Rattle.noninterference.specs.Conditions.{States, Equivalence, Output, OrdinaryStep}
use Rattle.noninterference.specs.Same.{Seen, Same, Within}

module _ (M : Machine) where
  pub seen_self : (u s : ℕ) → Seen M u s s
  seen_self u s = record { seen = λ o ho e. refl }

  pub seen_turned : (u s t : ℕ) → Seen M u s t → Seen M u t s
  seen_turned u s t h = record { seen = λ o ho e. sym (h.seen o ho e) }

  pub seen_joined : (u s t r : ℕ) → Seen M u s t → Seen M u t r → Seen M u s r
  seen_joined u s t r h g = record { seen = λ o ho e. h.seen o ho e ∙ g.seen o ho e }

  -- over any set of states
  pub same_output : (S : States) → Output M S (Same M)
  unfolding run
  same_output S = record { output = λ o s t ho hs ht h. (h.same [] tt).seen o ho refl }

  pub same_step : (S : States) → OrdinaryStep M S (Same M)
  unfolding run
  same_step S = record { step = λ u a s t hu ha hs ht h. record { same = λ r hr. h.same (a ∷ r) (ha, hr) } }

  pub same_equivalence : Equivalence (Same M)
  same_equivalence = record {
    self = λ u s. record { same = λ r hr. seen_self u (run M s r) };
    turned = λ u s t h. record { same = λ r hr. seen_turned u _ _ (h.same r hr) };
    joined = λ u s t x h g. record { same = λ r hr. seen_joined u _ _ _ (h.same r hr) (g.same r hr) };
  }

  pub within_equivalence : (k : ℕ) → Equivalence (Within M k)
  within_equivalence k = record {
    self = λ u s. record { within = λ r hr l. seen_self u (run M s r) };
    turned = λ u s t h. record { within = λ r hr l. seen_turned u _ _ (h.within r hr l) };
    joined = λ u s t x h g. record { within = λ r hr l. seen_joined u _ _ _ (h.within r hr l) (g.within r hr l) };
  }

  -- fewer runs tell less apart
  pub within_less : (j k u s t : ℕ) → j ≤ k → Within M k u s t → Within M j u s t
  within_less j k u s t l h = record { within = λ r hr lr. h.within r hr (omega arith) }

  pub within_same : (k u s t : ℕ) → Same M u s t → Within M k u s t
  within_same k u s t h = record { within = λ r hr l. h.same r hr }

  -- after an action there is one action less to look at
  pub within_step : (k u s t a : ℕ) → a < M.actions → Within M (k + 1) u s t → Within M k u (M.step s a) (M.step t a)
  unfolding run
  within_step k u s t a ha h = record { within = λ r hr l. h.within (a ∷ r) (ha, hr) (omega arith) }
