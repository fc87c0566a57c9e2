-- What a model that isn't refused satisfies.
use Rattle.std.specs.Prelude.{◌≡◌, true, List, ℕ, ◌<◌, ◌≤◌, get_or}
use Rattle.model.specs.Limits.{STATES, ACTIONS, BOXES, LARGEST_ID}
use Rattle.model.specs.Denoted.{next_at, owner_at, policy_of}
use Rattle.model.specs.declared.Sizes.{Sizes}
use Rattle.model.specs.declared.Machine.{Machine}
use Rattle.model.specs.declared.Model.{Model}

pub record GoodSizes (z : Sizes) : Type 0 where
  pub states_some : 0 < z.states
  pub states_most : z.states ≤ STATES
  pub actions_some : 0 < z.actions
  pub actions_most : z.actions ≤ ACTIONS
  pub boxes_some : 0 < z.boxes
  pub boxes_most : z.boxes ≤ BOXES
  pub start_in : z.start < z.states

pub record GoodMachine (m : Machine) : Type 0 where
  pub sizes : GoodSizes m.sizes
  pub owner_in : (a : ℕ) → a < m.sizes.actions → owner_at m a < m.sizes.boxes

pub record GoodTable (m : Machine) (next : List ℕ) : Type 0 where
  pub machine : GoodMachine m
  pub next_in : (s a : ℕ) → s < m.sizes.states → a < m.sizes.actions → next_at m next s a < m.sizes.states

pub record GoodDrawing (m : Model) : Type 0 where
  pub id_small : (u : ℕ) → u < m.machine.sizes.boxes → get_or m.ids u 0 ≤ LARGEST_ID
  pub id_once : (u v : ℕ) → u < m.machine.sizes.boxes → v < u → get_or m.ids v 0 ≡ get_or m.ids u 0 → ⊥
  pub arrow_in : (v u : ℕ) → v < BOXES → policy_of m v u ≡ true → (v < m.machine.sizes.boxes) × (u < m.machine.sizes.boxes)
  pub self : (u : ℕ) → u < m.machine.sizes.boxes → policy_of m u u ≡ true
