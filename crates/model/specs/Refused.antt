-- When values and tables that are handed in are refused: 10 for a table of another length, 12 for what breaks the rules.
use Rattle.std.specs.Prelude.{Bool, not, List, ℕ, ◌^◌, eqb, ltb, leb, get_or}
use Rattle.laws.specs.Choice.{both, choose}
use Rattle.laws.specs.Range.{every}
use Rattle.model.specs.Limits.{STATES, ACTIONS, BOXES, LARGEST_ID}
use Rattle.model.specs.Denoted.{next_at, owner_at, policy_of}
use Rattle.model.specs.declared.Machine.{Machine}
use Rattle.model.specs.declared.Model.{Model}

-- 1 to so many
unfoldable pub sized : ℕ → ℕ → Bool
sized most n = both (ltb 0 n) (leb n most)

-- the sizes and the start, and an owner for each action
unfoldable pub sizes_fit : Machine → Bool
sizes_fit m =
    both (sized STATES m.sizes.states) (both (sized ACTIONS m.sizes.actions) (both (sized BOXES m.sizes.boxes) (ltb m.sizes.start m.sizes.states)))

unfoldable pub owners_fit : Machine → Bool
owners_fit m = every m.sizes.actions λ a. ltb (owner_at m a) m.sizes.boxes

unfoldable pub machine_fits : Machine → Bool
machine_fits m = both (sizes_fit m) (owners_fit m)

-- every next state is a state
unfoldable pub next_fits : Machine → List ℕ → Bool
next_fits m next = every m.sizes.states λ s. every m.sizes.actions λ a. ltb (next_at m next s a) m.sizes.states

-- an id is small enough, and none before it is the same
unfoldable pub ids_fit : Model → Bool
ids_fit m =
    every m.machine.sizes.boxes λ u.
    both (leb (get_or m.ids u 0) LARGEST_ID) (every u λ v. not (eqb (get_or m.ids v 0) (get_or m.ids u 0)))

-- a row has bits of boxes only, and none beyond the last box
unfoldable pub row_fits : ℕ → ℕ → ℕ → Bool
row_fits boxes v row = ltb row (choose (ltb v boxes) (2 ^ boxes) 1)

-- every arrow has its ends among the boxes, and no self-arrow of a box is missing
unfoldable pub arrows_fit : Model → Bool
arrows_fit m = every BOXES λ v. row_fits m.machine.sizes.boxes v (get_or m.arrows v 0)

unfoldable pub selves_fit : Model → Bool
selves_fit m = every m.machine.sizes.boxes λ u. policy_of m u u

unfoldable pub drawing_fits : Model → Bool
drawing_fits m = both (ids_fit m) (both (arrows_fit m) (selves_fit m))

-- what a call is handed: a machine and its next states; a model; a model and its next states
unfoldable pub machine_table_fits : Machine → List ℕ → Bool
machine_table_fits m next = both (machine_fits m) (next_fits m next)

unfoldable pub model_fits : Model → Bool
model_fits m = both (machine_fits m.machine) (drawing_fits m)

unfoldable pub model_table_fits : Model → List ℕ → Bool
model_table_fits m next = both (machine_table_fits m.machine next) (drawing_fits m)
