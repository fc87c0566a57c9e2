-- Paths of drawn arrows.
use Rattle.std.specs.Prelude.{◌≡◌, true, ℕ, ◌<◌}
use Rattle.laws.specs.Choice.{choose}
use Rattle.noninterference.specs.Machine.{Machine}
use Rattle.noninterference.specs.Purge.{Policy}
use Rattle.noninterference.specs.Reached.{reached}

-- one arrow or more, each from where the one before it ends, through boxes below a count
pub data Path (boxes : ℕ) (interferes : Policy) : ℕ → ℕ → Type 0 where
  drawn : (v u : ℕ) → v < boxes → u < boxes → interferes v u ≡ true → Path boxes interferes v u
  onward : (v w u : ℕ) → v < boxes → w < boxes → interferes v w ≡ true → Path boxes interferes w u → Path boxes interferes v u

-- a machine that walks along arrows: its states are the boxes, and an action w moves it to w where an arrow leads there
abbrev pub walker : ℕ → Policy → ℕ → Machine
walker boxes interferes v = record {
  states = boxes;
  actions = boxes;
  boxes = boxes;
  start = v;
  step = λ s w. choose (interferes s w) w s;
  owner = λ w. w;
  observers = 0;
  watcher = λ o. o;
  sees = λ s o. 0;
}

-- v is u, or a path leads from v to u: as a test
unfoldable pub leads : ℕ → Policy → Policy
leads boxes interferes v u = reached (walker boxes interferes v) u
