-- The register machine of the report's section 5.2. States are (u, v, sum): 0 (0,0,0), 1 (1,0,0), 2 (1,0,1), 3 (0,2,0), 4 (0,2,2),
-- 5 (1,2,0), 6 (1,2,1), 7 (1,2,2), 8 (1,2,3). Boxes U, V, W and X have the ids 10, 20, 30 and 40, and an action each.
use Rattle.std.specs.Prelude.{List, [], ◌∷◌, ℕ}
use Rattle.model.specs.Limits.{ACTIONS, BOXES, NEXT_ENTRIES, OUTPUT_ENTRIES, VIEW_ENTRIES}
use Rattle.model.specs.Made.{sizes_from, machine_from, model_from}
use Rattle.model.specs.declared.Machine.{Machine}
use Rattle.model.specs.declared.Model.{Model}
use Rattle.register.specs.Tables.{full, by_state, by_box, draws}

-- the next states by U, V and W; X changes no state
abbrev pub next_rows : List (List ℕ)
next_rows =
    (1 ∷ 1 ∷ 2 ∷ 5 ∷ 7 ∷ 5 ∷ 6 ∷ 7 ∷ 8 ∷ [])
    ∷ (3 ∷ 5 ∷ 6 ∷ 3 ∷ 4 ∷ 5 ∷ 6 ∷ 7 ∷ 8 ∷ [])
    ∷ (0 ∷ 2 ∷ 2 ∷ 4 ∷ 4 ∷ 8 ∷ 8 ∷ 8 ∷ 8 ∷ [])
    ∷ (0 ∷ 1 ∷ 2 ∷ 3 ∷ 4 ∷ 5 ∷ 6 ∷ 7 ∷ 8 ∷ [])
    ∷ []

-- X outputs the sum; other outputs are 0
abbrev pub sums : List ℕ
sums = 0 ∷ 0 ∷ 1 ∷ 0 ∷ 2 ∷ 0 ∷ 1 ∷ 2 ∷ 3 ∷ []

abbrev pub output_rows : List ℕ → List (List ℕ)
output_rows xs = [] ∷ [] ∷ [] ∷ xs ∷ []

-- the views of U, V, W and X
abbrev pub view_u : List ℕ
view_u = 0 ∷ 1 ∷ 1 ∷ 0 ∷ 0 ∷ 1 ∷ 1 ∷ 1 ∷ 1 ∷ []

abbrev pub view_v : List ℕ
view_v = 0 ∷ 0 ∷ 0 ∷ 1 ∷ 1 ∷ 1 ∷ 1 ∷ 1 ∷ 1 ∷ []

abbrev pub view_w : List ℕ
view_w = 0 ∷ 1 ∷ 1 ∷ 2 ∷ 2 ∷ 3 ∷ 3 ∷ 3 ∷ 3 ∷ []

abbrev pub view_x : List ℕ
view_x = 0 ∷ 0 ∷ 1 ∷ 0 ∷ 2 ∷ 0 ∷ 1 ∷ 2 ∷ 3 ∷ []

-- the tables: their entries within the model, and zeros
abbrev pub next_entries : List ℕ
next_entries = by_state next_rows 9

abbrev pub output_entries : List ℕ
output_entries = by_state (output_rows sums) 9

abbrev pub view_entries : List ℕ
view_entries = by_box (view_u ∷ view_v ∷ view_w ∷ view_x ∷ [])

abbrev pub next : List ℕ
next = full NEXT_ENTRIES next_entries

abbrev pub outputs : List ℕ
outputs = full OUTPUT_ENTRIES output_entries

abbrev pub views : List ℕ
views = full VIEW_ENTRIES view_entries

abbrev pub machine : Machine
machine = machine_from (sizes_from 9 4 4 0) (full ACTIONS (0 ∷ 1 ∷ 2 ∷ 3 ∷ []))

-- 10 to 30, 20 to 30, 30 to 40
abbrev pub arrows : List ℕ
arrows = draws 4 ((0, 2) ∷ (1, 2) ∷ (2, 3) ∷ [])

abbrev pub model : Model
model = model_from machine (full BOXES (10 ∷ 20 ∷ 30 ∷ 40 ∷ [])) arrows
