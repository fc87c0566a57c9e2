-- What a box can tell apart.
use Rattle.std.specs.Prelude.{◌≡◌, List, ℕ, ◌<◌, ◌≤◌, length}
use Rattle.noninterference.specs.Machine.{Machine, Run, run}

-- box u's observers see the same in s and t
pub record Seen (M : Machine) (u s t : ℕ) : Type 0 where
  pub seen : (o : ℕ) → o < M.observers → M.watcher o ≡ u → M.sees s o ≡ M.sees t o

-- equation 3.3, in the proof of Theorem 6: after every run they see the same
pub record Same (M : Machine) (u s t : ℕ) : Type 0 where
  pub same : (r : List ℕ) → Run M r → Seen M u (run M s r) (run M t r)

-- after every run of length at most k
pub record Within (M : Machine) (k u s t : ℕ) : Type 0 where
  pub within : (r : List ℕ) → Run M r → length r ≤ k → Seen M u (run M s r) (run M t r)
