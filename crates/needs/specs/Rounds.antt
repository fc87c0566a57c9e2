-- Rounds of refinement over the states that count.
use Rattle.std.specs.Prelude.{◌≡◌, Bool, true, false, ℕ, ◌<◌}
use Rattle.noninterference.specs.Machine.{Machine}
use Rattle.noninterference.specs.Reached.{Reach}
use Rattle.noninterference.specs.Rounds.{alike, stable, depth_in}
use Rattle.needs.specs.Classes.{Classes}

-- the states that count are the reachable ones
pub record Known (M : Machine) (inside : ℕ → Bool) : Type 0 where
  pub small : (s : ℕ) → inside s ≡ true → s < M.states
  pub reach : Reach M inside

-- after k rounds, each of which split something
pub record AtRound (M : Machine) (inside : ℕ → Bool) (u : ℕ) (c : ℕ → ℕ) (k : ℕ) : Type 0 where
  pub classes : Classes inside (alike M u k) c
  pub split : (j : ℕ) → j < k → stable M inside u j ≡ false

-- no later round splits anything
pub record Refined (M : Machine) (inside : ℕ → Bool) (u : ℕ) (c : ℕ → ℕ) (k : ℕ) : Type 0 where
  pub depth : k ≡ depth_in M inside u
  pub classes : Classes inside (alike M u k) c
