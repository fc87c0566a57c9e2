-- How long a run a box needs to tell apart all that it can.
use Rattle.std.specs.Prelude.{ℕ, ◌+◌, ◌<◌}
use Rattle.noninterference.specs.Machine.{Machine, Reachable}
use Rattle.noninterference.specs.Same.{Within}

-- runs of length at most k tell apart every two reachable states that runs of length at most k + 1 tell apart
pub record Stable (M : Machine) (u k : ℕ) : Type 0 where
  pub stable : (s t : ℕ) → Reachable M s → Reachable M t → Within M k u s t → Within M (k + 1) u s t

-- the least such k
pub record Depth (M : Machine) (u k : ℕ) : Type 0 where
  pub enough : Stable M u k
  pub least : (j : ℕ) → j < k → ¬ Stable M u j
