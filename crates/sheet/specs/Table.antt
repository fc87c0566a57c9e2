-- The refusal table: for each kind of line its rows, in the order in which they are looked at.
use Rattle.std.specs.Prelude.{ℕ, suc, List, [], ◌∷◌, ◌++◌, Bool, true, false, cond, not, ◌&&◌, ◌||◌, length, get_or, set, replicate, ltb, eqb, Err, Option}
use Rattle.model.specs.Limits.{STATES, ACTIONS, BOXES, LARGEST_ID}
use Rattle.text.specs.Number.{number, on_number}
use Rattle.text.specs.Lines.{same}
use Rattle.model.specs.declared.refusal.Refusal.{Refusal}
use Rattle.model.specs.declared.refusal.Refusal.TheVariants as why
use Rattle.sheet.specs.Records as due
use Rattle.sheet.specs.Words as words
use Rattle.sheet.specs.Numbers.{Record, said, word, rest}
use Rattle.sheet.specs.Records.{Due, sheet_limits, act_limits, go_limits, arrow_limits, view_limits, sized, known, position, label_good}

-- a row: a refusal, and whether the line gives cause for it
pub record Row : Type 0 where
  pub refusal : Refusal
  pub holds : Bool

abbrev pub row : Refusal → Bool → Row
row e b = record { refusal = e; holds = b }

-- the first row that holds decides; where none does, the line says r
unfoldable pub by_rows : List Row → Record → Record
by_rows [] r = r
by_rows (x ∷ xs) r = cond x.holds (Err x.refusal) (by_rows xs r)

-- is a number bad; what it is, 0 where it is bad
abbrev pub is_bad : Option ℕ → Bool
is_bad n = on_number n (λ _. false) true

abbrev pub value_of : Option ℕ → ℕ
value_of n = on_number n (λ v. v) 0

-- some field is no number up to its limit
unfoldable pub some_bad : List ℕ → List (List ℕ) → Bool
some_bad [] fs = false
some_bad (m ∷ ms) [] = false
some_bad (m ∷ ms) (f ∷ fs) = is_bad (number m f) || some_bad ms fs

-- the numbers of the fields, one after the other
unfoldable pub values : List ℕ → List (List ℕ) → ℕ → List ℕ → List ℕ
values [] fs k vs = vs
values (m ∷ ms) [] k vs = vs
values (m ∷ ms) (f ∷ fs) k vs = values ms fs (suc k) (set vs k (value_of (number m f)))

-- number k of a line
abbrev pub nth : List ℕ → List ℕ → ℕ → ℕ
nth limits l k = get_or (values limits (rest l) 0 (replicate 4 0)) k 0

-- `Record`, then `Fields`, then `Number`
abbrev pub opening : List ℕ → List ℕ → List ℕ → List Row
opening w limits l =
    row why.Record (not (same (word l) w))
    ∷ row why.Fields (not (eqb (length (rest l)) (length limits)))
    ∷ row why.Number (some_bad limits (rest l))
    ∷ []

-- `sheet`: `Size`, then `Order` for the start
abbrev pub sheet_more : List ℕ → List Row
sheet_more l =
    row why.Size (not (sized STATES (nth sheet_limits l 0) && sized ACTIONS (nth sheet_limits l 1) && sized BOXES (nth sheet_limits l 2)))
    ∷ row why.Order (not (ltb (nth sheet_limits l 3) (nth sheet_limits l 0)))
    ∷ []

abbrev pub sheet_says : List ℕ → Record
sheet_says l = said (nth sheet_limits l 0) (nth sheet_limits l 1) (nth sheet_limits l 2) (nth sheet_limits l 3)

-- `act`: an unknown id
abbrev pub act_more : List ℕ → List ℕ → List Row
act_more ids l = row why.UnknownId (not (known ids (nth act_limits l 0))) ∷ []

abbrev pub act_says : List ℕ → List ℕ → Record
act_says ids l = said (position ids (nth act_limits l 0)) 0 0 0

-- `go`: `Order` for a state or an action that is not due, or a next state that is none
abbrev pub go_more : ℕ → ℕ → ℕ → List ℕ → List Row
go_more states state action l =
    row why.Order (not (eqb (nth go_limits l 0) state && eqb (nth go_limits l 1) action && ltb (nth go_limits l 2) states)) ∷ []

abbrev pub go_says : List ℕ → Record
go_says l = said (nth go_limits l 0) (nth go_limits l 1) (nth go_limits l 2) (nth go_limits l 3)

-- `flow` and `both`: an unknown id
abbrev pub arrow_more : List ℕ → List ℕ → List Row
arrow_more ids l = row why.UnknownId (not (known ids (nth arrow_limits l 0) && known ids (nth arrow_limits l 1))) ∷ []

abbrev pub arrow_says : List ℕ → List ℕ → Record
arrow_says ids l = said (position ids (nth arrow_limits l 0)) (position ids (nth arrow_limits l 1)) 0 0

-- `view`: `UnknownId` for an id that is not due, then `Order` for the state
abbrev pub view_more : ℕ → ℕ → List ℕ → List Row
view_more id state l =
    row why.UnknownId (not (eqb (nth view_limits l 0) id)) ∷ row why.Order (not (eqb (nth view_limits l 1) state)) ∷ []

abbrev pub view_says : List ℕ → Record
view_says l = said (nth view_limits l 0) (nth view_limits l 1) (nth view_limits l 2) 0

-- `box`: an id seen before, then the label
abbrev pub box_id : List ℕ → Option ℕ
box_id l = number LARGEST_ID (get_or (rest l) 0 [])

abbrev pub box_rows : List ℕ → List ℕ → List Row
box_rows ids l =
    row why.Record (not (same (word l) words.box))
    ∷ row why.Fields (not (eqb (length (rest l)) 2))
    ∷ row why.Number (is_bad (box_id l))
    ∷ row why.SameId (known ids (value_of (box_id l)))
    ∷ row why.Label (not (label_good (get_or (rest l) 1 [])))
    ∷ []

-- the rows of the line that is due, and what it says where none of them holds
abbrev pub rows : Due → List ℕ → List ℕ → List Row
rows due.Sheet ids l = opening words.sheet sheet_limits l ++ sheet_more l
rows due.Box ids l = box_rows ids l
rows due.Act ids l = opening words.act act_limits l ++ act_more ids l
rows (due.Go states state action) ids l = opening words.go go_limits l ++ go_more states state action l
rows (due.View id state) ids l = opening words.view view_limits l ++ view_more id state l

abbrev pub says : Due → List ℕ → List ℕ → Record
says due.Sheet ids l = sheet_says l
says due.Box ids l = said (value_of (box_id l)) 0 0 0
says due.Act ids l = act_says ids l
says (due.Go states state action) ids l = go_says l
says (due.View id state) ids l = view_says l
