-- Which boxes' actions move states to another class, as flags: source × boxes + target.
use Rattle.std.specs.Prelude.{◌≡◌, ◌≢◌, Bool, false, not, List, ℕ, ◌+◌, ◌*◌, ◌<◌, ◌≤◌, eqb, length, get_or}
use Rattle.laws.specs.Choice.{both, either, without}
use Rattle.laws.specs.Range.{some}
use Rattle.noninterference.specs.Machine.{Machine}
use Rattle.noninterference.specs.Rounds.{depth_in, needed_in}
use Rattle.model.specs.Limits.{BOXES, ARROWS}

pub record Owners (actions : ℕ) (owners : List ℕ) : Type 0 where
  pub owner_in : (a : ℕ) → a < actions → get_or owners a 0 < BOXES

abbrev pub cell_at : List Bool → ℕ → ℕ → Bool
cell_at table v u = get_or table (v * BOXES + u) false

-- the boxes whose actions move s to another class
unfoldable pub movers : List ℕ → (ℕ → ℕ → ℕ) → ℕ → (ℕ → ℕ) → ℕ → ℕ → Bool
movers owners step actions c s v = some actions λ a. without (eqb (get_or owners a 0) v) (eqb (c s) (c (step s a)))

-- the boxes whose actions move some state that counts
unfoldable pub sources : List ℕ → (ℕ → ℕ → ℕ) → ℕ → (ℕ → ℕ) → (ℕ → Bool) → ℕ → ℕ → Bool
sources owners step actions c inside states v = some states λ s. both (inside s) (movers owners step actions c s v)

-- column u has the boxes of p besides, and no other column differs
pub record Marked (table table' : List Bool) (u : ℕ) (p : ℕ → Bool) : Type 0 where
  pub long : length table' ≡ ARROWS
  pub column : (v : ℕ) → v < BOXES → cell_at table' v u ≡ either (cell_at table v u) (p v)
  pub others : (v w : ℕ) → v < BOXES → w < BOXES → w ≢ u → cell_at table' v w ≡ cell_at table v w

-- an arrow that is marked and no self-arrow
unfoldable pub wanted_in : List Bool → ℕ → ℕ → Bool
wanted_in table v u = both (not (eqb v u)) (cell_at table v u)

-- the boxes below n are sorted out
pub record SortedOut (M : Machine) (inside : ℕ → Bool) (table : List Bool) (depths : List ℕ) (n : ℕ) : Type 0 where
  pub table_long : length table ≡ ARROWS
  pub depths_long : length depths ≡ BOXES
  pub wanted : (v u : ℕ) → v < BOXES → u < n → wanted_in table v u ≡ needed_in M inside (depth_in M inside u) v u
  pub blank : (v u : ℕ) → v < BOXES → u < BOXES → n ≤ u → cell_at table v u ≡ false
  pub depth : (u : ℕ) → u < n → get_or depths u 0 ≡ depth_in M inside u
  pub level : (u : ℕ) → n ≤ u → get_or depths u 0 ≡ 0
