-- The highest of some entries.
use Rattle.std.specs.Prelude.{List, ◌≡◌, ℕ, ◌<◌, ◌≤◌, get_or}

-- the highest of the first n entries, 0 where there is none
pub record Highest (n : ℕ) (table : List ℕ) (top : ℕ) : Type 0 where
  pub upto : (i : ℕ) → i < n → get_or table i 0 ≤ top
  pub found : 0 < top → (i : ℕ) × (i < n) × (get_or table i 0 ≡ top)
