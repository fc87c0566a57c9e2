-- What private functions promise each other. Nobody has to believe these: no public contract mentions them.
use Rattle.std.specs.Prelude.{◌≡◌, Bool, true, false, List, ℕ, Option, Some, None, ◌<◌, ◌^◌, eqb}
use Rattle.laws.specs.Choice.{choose}
use Rattle.laws.specs.Bits.{bit}
use Rattle.model.specs.Limits.{BOXES}
use Rattle.edits.specs.Records.{at, boxes}
use Rattle.edits.specs.History.{History, past, ADD, DELETE, DRAW}
use Rattle.edits.specs.declared.BoxRecord.{BoxRecord}
use Rattle.edits.specs.declared.history.Past.{Past}
use Rattle.edits.specs.declared.Entry.{Entry}

-- the history that the code passes on
abbrev pub said : Past → History
said p = past p.count p.words.now

-- a place, where there is one
abbrev pub found : ℕ → Option ℕ
found k = choose (eqb k BOXES) None (Some k)

-- a place's bit, by whether it is in the set
abbrev pub one_if : Bool → ℕ
one_if true = 1
one_if false = 0

-- the arrows of every record leave room for one position more
pub record Small (list : List BoxRecord) : Type 0 where
  pub small : (k : ℕ) → (at list k).arrows < 2 ^ 31

-- positions for an entry, and for an arrow its bit
pub record Between (e : Entry) (list : List BoxRecord) (b : ℕ) : Type 0 where
  pub source : e.at < BOXES
  pub target : e.to < BOXES
  pub stands : bit e.to (at list e.at).arrows ≡ b

-- the entry can be done
pub record Doable (e : Entry) (list : List BoxRecord) : Type 0 where
  pub add : e.kind ≡ ADD → boxes list < BOXES
  pub delete : e.kind ≡ DELETE → e.at < BOXES
  pub draw : e.kind ≡ DRAW → Between e list 0
  pub erase : (e.kind ≡ ADD → ⊥) → (e.kind ≡ DELETE → ⊥) → (e.kind ≡ DRAW → ⊥) → Between e list 1

-- the entry can be undone
pub record Undoable (e : Entry) (list : List BoxRecord) : Type 0 where
  pub add : e.kind ≡ ADD → 0 < boxes list
  pub delete : e.kind ≡ DELETE → (e.at < BOXES) × Small list
  pub draw : e.kind ≡ DRAW → Between e list 1
  pub erase : (e.kind ≡ ADD → ⊥) → (e.kind ≡ DELETE → ⊥) → (e.kind ≡ DRAW → ⊥) → Between e list 0
