-- A sheet as somebody writes it: what stands on it, when it keeps to the rules, and its bytes.
use Rattle.std.specs.Prelude.{◌≡◌, true, false, List, [], ◌∷◌, ◌++◌, ℕ, suc, ◌*◌, ◌/◌, ◌%◌, ◌<◌, ◌≤◌, length, get_or}
use Rattle.model.specs.Limits.{STATES, ACTIONS, BOXES, LARGEST_ID, LARGEST_NUMBER, SHEET_BYTES}
use Rattle.text.specs.Number.{decimal}
use Rattle.sheet.specs.Words as words
use Rattle.sheet.specs.Records.{known, label_good}
use Rattle.zarpalume.specs.Lines.{line}

-- the fields of a line, and lines one after the other
abbrev pub Row : Type 0
Row = List (List ℕ)

unfoldable pub text : List Row → List ℕ
text [] = []
text (r ∷ rs) = line r ++ text rs

pub record Box : Type 0 where
  pub id : ℕ
  pub label : List ℕ

pub record Step : Type 0 where
  pub next : ℕ
  pub output : ℕ

-- the ids of an arrow's boxes, and whether it is drawn both ways
pub data Drawn : Type 0 where
  flow : ℕ → ℕ → Drawn
  both : ℕ → ℕ → Drawn

-- boxes in the order of positions, a box id for each action, steps by state and action, classes by box and state
pub record Paper : Type 0 where
  pub states : ℕ
  pub actions : ℕ
  pub start : ℕ
  pub boxes : List Box
  pub acts : List ℕ
  pub steps : List Step
  pub arrows : List Drawn
  pub classes : List ℕ

unfoldable pub ids_of : List Box → List ℕ
ids_of [] = []
ids_of (b ∷ bs) = b.id ∷ ids_of bs

-- ---- its lines
abbrev pub sheet_row : Paper → Row
sheet_row p = words.sheet ∷ decimal p.states ∷ decimal p.actions ∷ decimal (length p.boxes) ∷ decimal p.start ∷ []

abbrev pub box_row : Box → Row
box_row b = words.box ∷ decimal b.id ∷ b.label ∷ []

abbrev pub act_row : ℕ → Row
act_row id = words.act ∷ decimal id ∷ []

abbrev pub go_row : ℕ → ℕ → Step → Row
go_row actions k x = words.go ∷ decimal (k / actions) ∷ decimal (k % actions) ∷ decimal x.next ∷ decimal x.output ∷ []

abbrev pub arrow_row : Drawn → Row
arrow_row (flow i j) = words.flow ∷ decimal i ∷ decimal j ∷ []
arrow_row (both i j) = words.both ∷ decimal i ∷ decimal j ∷ []

abbrev pub view_row : List ℕ → ℕ → ℕ → ℕ → Row
view_row ids states k class = words.view ∷ decimal (get_or ids (k / states) 0) ∷ decimal (k % states) ∷ decimal class ∷ []

-- item k and those after it, each by its number
unfoldable pub rows_from : {A : Type 0} → (ℕ → A → Row) → ℕ → List A → List Row
rows_from row k [] = []
rows_from row k (x ∷ xs) = row k x ∷ rows_from row (suc k) xs

abbrev pub rows_of : Paper → List Row
rows_of p =
    sheet_row p ∷ (rows_from (λ _. box_row) 0 p.boxes ++ (rows_from (λ _. act_row) 0 p.acts ++ (rows_from (go_row p.actions) 0 p.steps
    ++ (rows_from (λ _. arrow_row) 0 p.arrows ++ rows_from (view_row (ids_of p.boxes) p.states) 0 p.classes))))

abbrev pub print : Paper → List ℕ
print p = text (rows_of p)

-- ---- the rules
abbrev pub Each : {A : Type 0} → (A → Type 0) → List A → Type 0
Each P [] = Unit {0}
Each P (x ∷ xs) = P x × Each P xs

-- an id is not among those before it
abbrev pub Boxes : List ℕ → List Box → Type 0
Boxes before [] = Unit {0}
Boxes before (b ∷ bs) =
    ((b.id ≤ LARGEST_ID) × (known before b.id ≡ false) × (label_good b.label ≡ true)) × Boxes (before ++ (b.id ∷ [])) bs

abbrev pub Known : List ℕ → ℕ → Type 0
Known ids id = (id ≤ LARGEST_ID) × (known ids id ≡ true)

abbrev pub Arrow : List ℕ → Drawn → Type 0
Arrow ids (flow i j) = Known ids i × Known ids j
Arrow ids (both i j) = Known ids i × Known ids j

pub record Good (p : Paper) : Type 0 where
  pub states_in : (0 < p.states) × (p.states ≤ STATES)
  pub actions_in : (0 < p.actions) × (p.actions ≤ ACTIONS)
  pub boxes_in : (0 < length p.boxes) × (length p.boxes ≤ BOXES)
  pub start_in : p.start < p.states
  pub boxes : Boxes [] p.boxes
  pub acts_many : length p.acts ≡ p.actions
  pub acts : Each (Known (ids_of p.boxes)) p.acts
  pub steps_many : length p.steps ≡ p.states * p.actions
  pub steps : Each (λ x. (x.next < p.states) × (x.output ≤ LARGEST_NUMBER)) p.steps
  pub arrows : Each (Arrow (ids_of p.boxes)) p.arrows
  pub classes_many : length p.classes ≡ length p.boxes * p.states
  pub classes : Each (λ c. c ≤ LARGEST_NUMBER) p.classes

-- a text that was printed so, within the limit
pub record PrintedFrom (t : List ℕ) : Type 0 where
  pub page : Paper
  pub good : Good page
  pub is : print page ≡ t
  pub short : length t ≤ SHEET_BYTES
