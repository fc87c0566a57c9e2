-- What the edits promise, a statement each. `proofs/Promises` proves them.
use Rattle.std.specs.Prelude.{◌≡◌, true, false, List, [], ◌∷◌, ℕ, suc, ◌*◌, ◌≤◌, get_or, replicate}
use Rattle.model.specs.Limits.{BOXES, EDITS}
use Rattle.model.specs.declared.refusal.Refusal.TheVariants.{Rules}
use Rattle.edits.specs.Records.{blank, at, boxes, place}
use Rattle.edits.specs.History.{History, FIELDS, fresh, keep, newest, rest, deleted}
use Rattle.edits.specs.Allowed.{allowed}
use Rattle.edits.specs.Done.{new_box, undone}
use Rattle.edits.specs.Fits.{fits}
use Rattle.edits.specs.Gives.{Gives}
use Rattle.edits.specs.Edited.{Edited, refused, accepted, fitting, edited}
use Rattle.edits.specs.declared.BoxRecord.{BoxRecord}
use Rattle.edits.specs.declared.Change.{Change}
use Rattle.edits.specs.declared.Change.TheVariants.{Add, Delete}
use Rattle.edits.specs.declared.Entry.{Entry}
use Rattle.edits.specs.declared.Request.{Request}
use Rattle.edits.specs.declared.Request.TheVariants.{Make, Undo, Drop}

-- ---- lists that these calls build from a fresh one
pub data Built : List BoxRecord → History → Type 0 where
  nothing : Built (replicate BOXES blank) fresh
  more : {l : List BoxRecord} {h : History} → Built l h → (q : Request) → (edited l h q).number ≡ 0 → Built (edited l h q).list (edited l h q).history

-- n changes, none refused
pub data Changed (l : List BoxRecord) (h : History) : ℕ → List BoxRecord → History → Type 0 where
  begun : Changed l h 0 l h
  next : {n : ℕ} {m : List BoxRecord} {g : History} → Changed l h n m g → (c : Change) → (edited m g (Make c)).number ≡ 0
      → Changed l h (suc n) (edited m g (Make c)).list (edited m g (Make c)).history

-- the last answer to a run of requests
abbrev pub after : Edited → List Request → Edited
after x [] = x
after x (q ∷ qs) = after (edited x.list x.history q) qs

-- ---- undo
-- boxes, their order, ids and arrows, and the history, as they were before the change
abbrev pub UndoExact : Type 0
UndoExact = (l : List BoxRecord) (h : History) → Built l h → (c : Change) → (edited l h (Make c)).number ≡ 0
    → edited (edited l h (Make c)).list (edited l h (Make c)).history Undo ≡ accepted l h

-- any number of changes, and as many undos
abbrev pub UndoAll : Type 0
UndoAll = (l : List BoxRecord) (h : History) → Built l h → (n : ℕ) (m : List BoxRecord) (g : History) → Changed l h n m g
    → after (accepted m g) (replicate n Undo) ≡ accepted l h

-- on any list: the one before the change, and its history without what lay beyond the count
abbrev pub UndoAny : Type 0
UndoAny = (l : List BoxRecord) (h : History) (c : Change) → (edited l h (Make c)).number ≡ 0
    → edited (edited l h (Make c)).list (edited l h (Make c)).history Undo ≡ accepted l (keep h.count h)

-- at most one list gives another by an edit, and it is the one that undo works out
abbrev pub Unique : Type 0
Unique = (a b l : List BoxRecord) (h : History) (e : Entry) → Gives a h e l → Gives b h e l → a ≡ b

abbrev pub OnlyOne : Type 0
OnlyOne = (m l : List BoxRecord) (h : History) (e : Entry) → Gives m h e l → undone e l ≡ m

-- the closed form: an entry fits a list exactly where some list gives that one by it
abbrev pub FitsExactly : Type 0
FitsExactly = (l : List BoxRecord) (h : History) → fitting l h ≡ true → allowed l h ≡ true → (h.count ≡ 0 → ⊥)
    → (fits (newest h) l ≡ true → Gives (undone (newest h) l) (rest h) (newest h) l) × ((m : List BoxRecord) → Gives m (rest h) (newest h) l → fits (newest h) l ≡ true)

-- undo's own clause: answered by the list that gives this one, and refused by `Rules` where there is none
abbrev pub UndoFinds : Type 0
UndoFinds = (m l : List BoxRecord) (h : History) → fitting l h ≡ true → allowed l h ≡ true → (h.count ≡ 0 → ⊥)
    → Gives m (rest h) (newest h) l → edited l h Undo ≡ accepted m (keep (rest h).count h)

abbrev pub UndoRefuses : Type 0
UndoRefuses = (l : List BoxRecord) (h : History) → fitting l h ≡ true → allowed l h ≡ true → (h.count ≡ 0 → ⊥)
    → ((m : List BoxRecord) → Gives m (rest h) (newest h) l → ⊥) → edited l h Undo ≡ refused l h Rules

-- ---- ids and room
-- an id is not used again while its deletion is in the history
abbrev pub NotAgain : Type 0
NotAgain = (l : List BoxRecord) (h : History) (id : ℕ) → deleted h id ≡ true → (edited l h (Make (Add id))).number ≡ 0 → ⊥

-- the room of a deleted box is: with room in the history a new id is added, as the last box
abbrev pub RoomAgain : Type 0
RoomAgain = (l : List BoxRecord) (h : History) (gone id : ℕ) → (edited l h (Make (Delete gone))).number ≡ 0
    → (m : List BoxRecord) (g : History) → edited l h (Make (Delete gone)) ≡ accepted m g
    → (g.count ≡ EDITS → ⊥) → place m id ≡ BOXES → deleted g id ≡ false
    → ((edited m g (Make (Add id))).number ≡ 0) × (at (edited m g (Make (Add id))).list (boxes m) ≡ new_box id)

-- ---- what stays
-- a refused edit changes nothing
abbrev pub RefusedSame : Type 0
RefusedSame = (l : List BoxRecord) (h : History) (q : Request) → ((edited l h q).number ≡ 0 → ⊥) → ((edited l h q).list ≡ l) × ((edited l h q).history ≡ h)

-- dropping the history keeps boxes and arrows
abbrev pub DropKeeps : Type 0
DropKeeps = (l : List BoxRecord) (h : History) → fitting l h ≡ true → allowed l h ≡ true → edited l h Drop ≡ accepted l fresh

-- an accepted edit gives back an allowed list, and words that are blank beyond the count
abbrev pub StaysAllowed : Type 0
StaysAllowed = (l : List BoxRecord) (h : History) (q : Request) → (edited l h q).number ≡ 0
    → (fitting (edited l h q).list (edited l h q).history ≡ true) × ((allowed (edited l h q).list (edited l h q).history ≡ true)
    × ((j : ℕ) → (edited l h q).history.count * FIELDS ≤ j → get_or (edited l h q).history.words j 0 ≡ 0))
