-- A policy with all arrows of another, and perhaps more.
use Rattle.std.specs.Prelude.{◌≡◌, true, List, ℕ, ◌<◌}
use Rattle.noninterference.specs.Machine.{Machine, Run}
use Rattle.noninterference.specs.Purge.{Policy, Kind, purge, keeps}

-- between boxes of the machine, every arrow of `fewer` is one of `more`
pub record Extends (M : Machine) (fewer more : Policy) : Type 0 where
  pub extends : (v u : ℕ) → v < M.boxes → u < M.boxes → fewer v u ≡ true → more v u ≡ true

-- for every box, a run purged by `more` and then by `fewer` is the run purged by `fewer`
pub record Absorbs (kind : Kind) (M : Machine) (fewer more : Policy) : Type 0 where
  pub absorbs : (u : ℕ) → u < M.boxes → (r : List ℕ) → Run M r →
      purge (keeps kind M.owner fewer u) (purge (keeps kind M.owner more u) r) ≡ purge (keeps kind M.owner fewer u) r
