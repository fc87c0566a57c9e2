-- The reachable states as a test that computes.
use Rattle.std.specs.Prelude.{◌≡◌, Bool, true, ℕ, zero, suc, ◌<◌, eqb}
use Rattle.laws.specs.Choice.{both, either}
use Rattle.laws.specs.Range.{some}
use Rattle.noninterference.specs.Machine.{Machine, Reachable}

-- some run of at most k actions ends in s
unfoldable pub reached_by : Machine → ℕ → ℕ → Bool
reached_by M zero s = eqb s M.start
reached_by M (suc k) s =
    either (reached_by M k s) (some M.states λ t. both (reached_by M k t) (some M.actions λ a. eqb (M.step t a) s))

-- as many actions as there are states are enough
unfoldable pub reached : Machine → ℕ → Bool
reached M s = reached_by M M.states s

-- a test that holds of exactly the reachable states, which are states of the table
pub record Reach (M : Machine) (inside : ℕ → Bool) : Type 0 where
  pub right : (s : ℕ) → s < M.states → inside s ≡ true → Reachable M s
  pub all : (s : ℕ) → Reachable M s → inside s ≡ true
  pub small : (s : ℕ) → Reachable M s → s < M.states
