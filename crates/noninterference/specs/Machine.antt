-- A finite machine, its runs and the states that they reach (Definition 1). Boxes are the report's domains.
use Rattle.std.specs.Prelude.{◌≡◌, List, [], ◌∷◌, ℕ, ◌<◌}
use Rattle.laws.specs.Lists.{All}

-- Definition 1: states, actions, step, and dom, here `owner`. Outputs are read by observers: how many there are, the box that each
-- watches for, and what it sees in a state. Where each action has an output the observers are the actions, and watch for their owners;
-- where each box reads the state they are the boxes.
pub record Machine : Type 0 where
  pub states : ℕ
  pub actions : ℕ
  pub boxes : ℕ
  pub start : ℕ
  pub step : ℕ → ℕ → ℕ
  pub owner : ℕ → ℕ
  pub observers : ℕ
  pub watcher : ℕ → ℕ
  pub sees : ℕ → ℕ → ℕ

-- owners and watchers are boxes of the machine
pub record Owned (M : Machine) : Type 0 where
  pub owners : (a : ℕ) → a < M.actions → M.owner a < M.boxes
  pub watchers : (o : ℕ) → o < M.observers → M.watcher o < M.boxes

-- a set of states that holds the start and is closed under steps
pub record Closed (M : Machine) (S : ℕ → Type 0) : Type 0 where
  pub first : S M.start
  pub next : (s a : ℕ) → S s → a < M.actions → S (M.step s a)

-- a run is a finite sequence of the machine's actions, of any length
abbrev pub Run : Machine → List ℕ → Type 0
Run M r = All (λ a. a < M.actions) r

-- Definition 1: the actions of a run applied from left to right
unfoldable pub run : Machine → ℕ → List ℕ → ℕ
run M s [] = s
run M s (a ∷ r) = run M (M.step s a) r

-- Definition 2's `do`: where a run from the start ends
abbrev pub after : Machine → List ℕ → ℕ
after M r = run M M.start r

-- some run from the start ends in s
pub record Reachable (M : Machine) (s : ℕ) : Type 0 where
  pub by : List ℕ
  pub is_run : Run M by
  pub ends : after M by ≡ s
