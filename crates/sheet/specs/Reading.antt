-- A whole sheet.
use Rattle.std.specs.Prelude.{ℕ, ◌-◌, List, [], ◌∷◌, cond, ◌&&◌, length, get_or, take, replicate, eqb, Result, Ok, Err}
use Rattle.model.specs.Arrows.{selves}
use Rattle.model.specs.Limits.{BOXES, NEXT_ENTRIES, OUTPUT_ENTRIES, VIEW_ENTRIES, SHEET_BYTES}
use Rattle.model.specs.Made.{sizes_from, machine_from, model_from}
use Rattle.model.specs.declared.Model as models
use Rattle.model.specs.declared.Sizes.{Sizes}
use Rattle.text.specs.Lines.{lines}
use Rattle.model.specs.declared.refusal.Refusal.{Refusal}
use Rattle.model.specs.declared.refusal.Refusal.TheVariants as why
use Rattle.model.specs.declared.refusal.Refused.{Refused}
use Rattle.model.specs.Refusal.{refused_as}
use Rattle.sheet.specs.Numbers.{on_record}
use Rattle.sheet.specs.Records.{sized, sheet_line}
use Rattle.sheet.specs.Phases.{Got, got, refused, Steps, steps, boxes, acts, goes, flows, views}

-- what was read goes on to the next phase
abbrev pub on_got : {S T : Type 0} → Got S → (S → List (List ℕ) → ℕ → Got T) → Got T
on_got (got s ls n) f = f s ls n
on_got (refused e n) f = refused e n

-- the tables and the arrows
pub record Drawn : Type 0 where
  pub steps : Steps
  pub arrows : List ℕ
  pub views : List ℕ

abbrev pub drawn_as : Steps → List ℕ → List ℕ → Drawn
drawn_as t arrows v = record { steps = t; arrows = arrows; views = v }

-- `go` lines, then `flow` and `both` lines, then `view` lines
unfoldable pub drawing : ℕ → ℕ → List ℕ → Steps → List ℕ → List (List ℕ) → ℕ → Got Drawn
drawing states actions ids t v ls n =
    on_got (goes states actions t ls n) (λ t ls n.
    on_got (flows ids (selves (length ids) (replicate BOXES 0)) ls n) (λ arrows ls n.
    on_got (views ids states v ls n) (λ v ls n.
    got (drawn_as t arrows v) ls n)))

-- all that stands after the `sheet` line
pub record Parts : Type 0 where
  pub ids : List ℕ
  pub owners : List ℕ
  pub drawn : Drawn

abbrev pub parts_as : List ℕ → List ℕ → Drawn → Parts
parts_as ids owners d = record { ids = ids; owners = owners; drawn = d }

-- `box` lines, then `act` lines, then the rest
unfoldable pub parts : ℕ → ℕ → ℕ → Steps → List ℕ → List (List ℕ) → ℕ → Got Parts
parts states actions count t v ls n =
    on_got (boxes count ls n) (λ ids ls n.
    on_got (acts (take count ids) actions ls n) (λ owners ls n.
    on_got (drawing states actions (take count ids) t v ls n) (λ d ls n.
    got (parts_as ids owners d) ls n)))

-- the model that they make
abbrev pub model_of : Sizes → Parts → models.Model
model_of z p = model_from (machine_from z p.owners) p.ids p.drawn.arrows

-- what a text says: the sizes and the parts of a model; or a refusal
pub data Reading : Type 0 where
  model : Sizes → Parts → Reading
  refusal : Refusal → ℕ → Reading

-- no line may follow the last
abbrev pub finish : Got Parts → (Parts → Reading) → Reading
finish (got p [] n) f = f p
finish (got p (l ∷ ls) n) f = refusal why.Record n
finish (refused e n) f = refusal e n

-- the lines of a sheet, over empty tables
unfoldable pub sheet_lines : Steps → List ℕ → List (List ℕ) → Reading
sheet_lines t v [] = refusal why.Ended 1
sheet_lines t v (l ∷ ls) =
    on_record (sheet_line l)
    (λ states actions count start. finish (parts states actions count t v ls 2) (model (sizes_from states actions count start)))
    (λ e. refusal e 1)

-- a table of zeros
unfoldable pub zeros : ℕ → List ℕ
zeros n = replicate n 0

-- a text of 1 to 32,768 bytes whose last is LF, or `Text`
unfoldable pub sheet_text : List ℕ → Reading
sheet_text t =
    cond (sized SHEET_BYTES (length t) && eqb (get_or t (length t - 1) 0) 10)
    (sheet_lines (steps (zeros NEXT_ENTRIES) (zeros OUTPUT_ENTRIES)) (zeros VIEW_ENTRIES) (lines t))
    (refusal why.Text 0)

-- what the reader gives back, and what the tables then hold
pub record Outcome : Type 0 where
  pub answer : Result models.Model Refused
  pub next : List ℕ
  pub outputs : List ℕ
  pub views : List ℕ

abbrev pub outcome : Result models.Model Refused → List ℕ → List ℕ → List ℕ → Outcome
outcome a next outputs views = record { answer = a; next = next; outputs = outputs; views = views }

-- a refusal makes the tables zero
abbrev pub given : Reading → Outcome
given (model z p) = outcome (Ok (model_of z p)) p.drawn.steps.next p.drawn.steps.outputs p.drawn.views
given (refusal e n) =
    outcome (Err (refused_as e n)) (zeros NEXT_ENTRIES) (zeros OUTPUT_ENTRIES) (zeros VIEW_ENTRIES)

-- the whole call: `Length` where a table has the wrong length, and the tables are then as they were
unfoldable pub read : List ℕ → List ℕ → List ℕ → List ℕ → Outcome
read t next outputs views =
    cond (eqb (length next) NEXT_ENTRIES && eqb (length outputs) OUTPUT_ENTRIES && eqb (length views) VIEW_ENTRIES)
    (given (sheet_text t))
    (outcome (Err (refused_as why.Length 0)) next outputs views)

-- what the code's answer says, with the tables
abbrev pub reading_of : Result models.Model Refused → Steps → List ℕ → Reading
reading_of (Ok m) t v = model m.machine.sizes (parts_as m.ids m.machine.owners (drawn_as t m.arrows v))
reading_of (Err r) t v = refusal r.refusal r.line
