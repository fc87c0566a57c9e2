-- What a sheet on paper means: the parts of the model that it stands for, each by name, and its labels.
use Rattle.std.specs.Prelude.{Bool, false, ◌&&◌, ◌||◌, List, [], ◌∷◌, ◌++◌, map, ℕ, ◌+◌, ◌-◌, ◌*◌, eqb, ltb, length, get_or}
use Rattle.laws.specs.Range.{tabulate}
use Rattle.laws.specs.Sets.{pack}
use Rattle.model.specs.Limits.{ACTIONS, BOXES, NEXT_ENTRIES, OUTPUT_ENTRIES, VIEW_ENTRIES}
use Rattle.model.specs.Made.{sizes_from}
use Rattle.model.specs.declared.Sizes.{Sizes}
use Rattle.sheet.specs.Records.{position}
use Rattle.sheet.specs.Phases.{steps}
use Rattle.sheet.specs.Reading.{Parts, parts_as, drawn_as, zeros}
use Rattle.demands.specs.Printed as paper
use Rattle.demands.specs.Printed.{Box, Step, Drawn, Paper, ids_of}

abbrev pub sizes_of : Paper → Sizes
sizes_of p = sizes_from p.states p.actions (length p.boxes) p.start

-- a table of n entries: these in front, zero beyond
abbrev pub table : ℕ → List ℕ → List ℕ
table n xs = xs ++ zeros (n - length xs)

-- the box of each action, by position
abbrev pub owners_of : Paper → List ℕ
owners_of p = map (position (ids_of p.boxes)) p.acts

-- entry state * actions + action
abbrev pub nexts_of : Paper → List ℕ
nexts_of p = map (λ (x : Step). x.next) p.steps

abbrev pub outputs_of : Paper → List ℕ
outputs_of p = map (λ (x : Step). x.output) p.steps

-- does an arrow lead from box v to box u, both by position; one that is drawn both ways is two
abbrev pub goes : List ℕ → ℕ → ℕ → ℕ → ℕ → Bool
goes ids i j v u = eqb (position ids i) v && eqb (position ids j) u

unfoldable pub leads : List ℕ → List Drawn → ℕ → ℕ → Bool
leads ids [] v u = false
leads ids (paper.flow i j ∷ xs) v u = goes ids i j v u || leads ids xs v u
leads ids (paper.both i j ∷ xs) v u = goes ids i j v u || (goes ids j i v u || leads ids xs v u)

-- every box leads to itself, and to those that an arrow is drawn to
abbrev pub arrow_at : Paper → ℕ → ℕ → Bool
arrow_at p v u = (ltb v (length p.boxes) && eqb v u) || leads (ids_of p.boxes) p.arrows v u

-- a row for each box: the set of those that an arrow leads to
abbrev pub arrows_of : Paper → List ℕ
arrows_of p = tabulate BOXES (λ v. pack (arrow_at p v) 0 BOXES)

abbrev pub parts_of : Paper → Parts
parts_of p =
    parts_as (table BOXES (ids_of p.boxes)) (table ACTIONS (owners_of p))
    (drawn_as (steps (table NEXT_ENTRIES (nexts_of p)) (table OUTPUT_ENTRIES (outputs_of p))) (arrows_of p) (table VIEW_ENTRIES p.classes))

-- the label of each box
abbrev pub labels_of : Paper → List (List ℕ)
labels_of p = map (λ (b : Box). b.label) p.boxes

-- the step of a state and an action; the class of a state in the view of a box, by position
abbrev pub step_at : Paper → ℕ → ℕ → Step
step_at p s a = get_or p.steps (s * p.actions + a) (record { next = 0; output = 0 })

abbrev pub class_at : Paper → ℕ → ℕ → ℕ
class_at p u s = get_or p.classes (u * p.states + s) 0
