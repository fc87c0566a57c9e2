-- What a user demands of whatever answers edits: it is proved of ours and refuted of the old fault (`proofs/Fakes`).
use Rattle.std.specs.Prelude.{◌≡◌, true, List, ℕ, ◌*◌, ◌<◌, ◌≤◌, get_or}
use Rattle.laws.specs.Bits.{bit}
use Rattle.model.specs.Limits.{BOXES}
use Rattle.edits.specs.Records.{at, place}
use Rattle.edits.specs.History.{History, FIELDS}
use Rattle.edits.specs.Allowed.{allowed}
use Rattle.edits.specs.Edited.{Edited, accepted, fitting}
use Rattle.edits.specs.declared.BoxRecord.{BoxRecord}
use Rattle.edits.specs.declared.Change.{Change}
use Rattle.edits.specs.declared.Change.TheVariants.{Delete}
use Rattle.edits.specs.declared.Request.{Request}
use Rattle.edits.specs.declared.Request.TheVariants.{Make, Undo}

-- what answers: any function of a list, a history and a request
abbrev pub Answers : Type 0
Answers = List BoxRecord → History → Request → Edited

-- a list and a history that keep to the rules, blank beyond the count
pub record Tidy (l : List BoxRecord) (h : History) : Type 0 where
  pub fits : fitting l h ≡ true
  pub good : allowed l h ≡ true
  pub clean : (j : ℕ) → h.count * FIELDS ≤ j → get_or h.words j 0 ≡ 0

-- 1 if an arrow goes from the box with one id to the box with another
abbrev pub between : List BoxRecord → ℕ → ℕ → ℕ
between l a b = bit (place l b) (at l (place l a)).arrows

pub record Demand (f : Answers) : Type 0 where
  -- undo gives back boxes, order, ids and arrows
  pub undoes : (l : List BoxRecord) (h : History) → Tidy l h → (c : Change) → (f l h (Make c)).number ≡ 0
      → f (f l h (Make c)).list (f l h (Make c)).history Undo ≡ accepted l h
  -- a deletion takes the box's own arrows, and no other: boxes are known by their ids
  pub keeps : (l : List BoxRecord) (h : History) → Tidy l h → (id : ℕ) → (f l h (Make (Delete id))).number ≡ 0 → (a b : ℕ) → (a ≡ id → ⊥) → (b ≡ id → ⊥)
      → place l a < BOXES → place l b < BOXES → between (f l h (Make (Delete id))).list a b ≡ between l a b
