-- The lines of a sheet, each by itself: the numbers that it says, with ids turned into positions, or why it is refused.
use Rattle.std.specs.Prelude.{ℕ, List, [], ◌∷◌, Bool, true, cond, ◌&&◌, length, get_or, ltb, leb, eqb, Result, Ok, Err, Option, Some, None}
use Rattle.model.specs.Limits.{STATES, ACTIONS, BOXES, LARGEST_ID, LARGEST_NUMBER, LABEL_BYTES}
use Rattle.text.specs.Number.{number, on_number}
use Rattle.text.specs.Lines.{before, same}
use Rattle.model.specs.declared.refusal.Refusal.{Refusal}
use Rattle.model.specs.declared.refusal.Refusal.TheVariants as why
use Rattle.sheet.specs.declared.Arrows.{Arrows}
use Rattle.sheet.specs.declared.Arrows.TheVariants as flow
use Rattle.sheet.specs.Words as words
use Rattle.sheet.specs.Numbers.{Record, said, on_record, word, rest, record_of}

-- a size is 1 to its limit
abbrev pub sized : ℕ → ℕ → Bool
sized most n = ltb 0 n && leb n most

-- the position of an id among those given; their count where it is none of them
abbrev pub position : List ℕ → ℕ → ℕ
position ids id = before id ids

abbrev pub known : List ℕ → ℕ → Bool
known ids id = ltb (position ids id) (length ids)

abbrev pub placed : List ℕ → ℕ → Option ℕ
placed ids id = cond (known ids id) (Some (position ids id)) None

-- every byte is 0x20 to 0x7E
unfoldable pub plain : List ℕ → Bool
plain [] = true
plain (x ∷ xs) = leb 32 x && leb x 126 && plain xs

abbrev pub label_good : List ℕ → Bool
label_good l = sized LABEL_BYTES (length l) && plain l

-- the limits of the numbers of each kind of line
abbrev pub sheet_limits : List ℕ
sheet_limits = LARGEST_NUMBER ∷ LARGEST_NUMBER ∷ LARGEST_NUMBER ∷ LARGEST_NUMBER ∷ []

abbrev pub act_limits : List ℕ
act_limits = LARGEST_ID ∷ []

abbrev pub go_limits : List ℕ
go_limits = LARGEST_NUMBER ∷ LARGEST_NUMBER ∷ LARGEST_NUMBER ∷ LARGEST_NUMBER ∷ []

abbrev pub arrow_limits : List ℕ
arrow_limits = LARGEST_ID ∷ LARGEST_ID ∷ []

abbrev pub view_limits : List ℕ
view_limits = LARGEST_ID ∷ LARGEST_NUMBER ∷ LARGEST_NUMBER ∷ []

-- `sheet`, states, actions, boxes, start: sizes, then the start
unfoldable pub sheet_line : List ℕ → Record
sheet_line l =
    on_record (record_of words.sheet sheet_limits l)
    (λ states actions boxes start.
    cond (sized STATES states && sized ACTIONS actions && sized BOXES boxes)
    (cond (ltb start states) (said states actions boxes start) (Err why.Order))
    (Err why.Size))
    Err

-- the id and the label of a box, after boxes with the ids given
abbrev pub box_of : List ℕ → Option ℕ → List ℕ → Record
box_of ids n label =
    on_number n
    (λ id. cond (known ids id) (Err why.SameId) (cond (label_good label) (said id 0 0 0) (Err why.Label)))
    (Err why.Number)

abbrev pub box_fields : List ℕ → List (List ℕ) → Record
box_fields ids fs =
    cond (eqb (length fs) 2) (box_of ids (number LARGEST_ID (get_or fs 0 [])) (get_or fs 1 [])) (Err why.Fields)

-- `box`, id, label
unfoldable pub box_line : List ℕ → List ℕ → Record
box_line ids l = cond (same (word l) words.box) (box_fields ids (rest l)) (Err why.Record)

-- `act`, box id: the box's position
unfoldable pub act_line : List ℕ → List ℕ → Record
act_line ids l =
    on_record (record_of words.act act_limits l)
    (λ id _ _ _. cond (known ids id) (said (position ids id) 0 0 0) (Err why.UnknownId))
    Err

-- `go`, state, action, next, output: the state and the action that are due, and a next state of the model
unfoldable pub go_line : ℕ → ℕ → ℕ → List ℕ → Record
go_line states state action l =
    on_record (record_of words.go go_limits l)
    (λ s a next output.
    cond (eqb s state && eqb a action && ltb next states) (said s a next output) (Err why.Order))
    Err

-- a word, id, id: the boxes' positions
unfoldable pub arrow_line : List ℕ → List ℕ → List ℕ → Record
arrow_line w ids l =
    on_record (record_of w arrow_limits l)
    (λ from to _ _.
    cond (known ids from && known ids to) (said (position ids from) (position ids to) 0 0) (Err why.UnknownId))
    Err

-- what a line says of arrows; nothing where it is another line
abbrev pub Flow : Type 0
Flow = Result (Option Arrows) Refusal

-- `flow` is one arrow, `both` is two; any other line is left for later
unfoldable pub flow_line : List ℕ → List ℕ → Flow
flow_line ids l =
    cond (same (word l) words.flow) (on_record (arrow_line words.flow ids l) (λ from to _ _. Ok (Some (flow.One from to))) Err)
    (cond (same (word l) words.both) (on_record (arrow_line words.both ids l) (λ from to _ _. Ok (Some (flow.Two from to))) Err)
    (Ok None))

-- what becomes of one arrow, of two, of a refused line, and of another line
abbrev pub on_flow : {A : Type 0} → Flow → (ℕ → ℕ → A) → (ℕ → ℕ → A) → (Refusal → A) → A → A
on_flow (Ok (Some (flow.One v u))) f g z o = f v u
on_flow (Ok (Some (flow.Two v u))) f g z o = g v u
on_flow (Ok None) f g z o = o
on_flow (Err e) f g z o = z e

-- `view`, id, state, class: the id, then the state that is due
unfoldable pub view_line : ℕ → ℕ → List ℕ → Record
view_line id state l =
    on_record (record_of words.view view_limits l)
    (λ i s class _. cond (eqb i id) (cond (eqb s state) (said i s class 0) (Err why.Order)) (Err why.UnknownId))
    Err

-- a kind of line that is due
pub data Due : Type 0 where
  Sheet : Due
  Box : Due
  Act : Due
  Go : ℕ → ℕ → ℕ → Due
  View : ℕ → ℕ → Due

-- the line that is due, after boxes with the ids given
abbrev pub line_due : Due → List ℕ → List ℕ → Record
line_due Sheet ids = sheet_line
line_due Box ids = box_line ids
line_due Act ids = act_line ids
line_due (Go states state action) ids = go_line states state action
line_due (View id state) ids = view_line id state
