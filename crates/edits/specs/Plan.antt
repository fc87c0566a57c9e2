-- What a host asks to be changed, and the entry that does it, or why it is refused.
use Rattle.std.specs.Prelude.{List, ℕ, Result, Ok, Err, ltb, eqb}
use Rattle.laws.specs.Choice.{choose}
use Rattle.laws.specs.Bits.{bit}
use Rattle.model.specs.Limits.{BOXES, EDITS}
use Rattle.model.specs.declared.refusal.Refusal.{Refusal}
use Rattle.model.specs.declared.refusal.Refusal.TheVariants.{UnknownId, UsedId, NoRoom, LongHistory, Arrow}
use Rattle.edits.specs.Records.{at, boxes, place}
use Rattle.edits.specs.History.{History, ADD, DELETE, DRAW, ERASE, deleted}
use Rattle.edits.specs.Moved.{column_of}
use Rattle.edits.specs.declared.BoxRecord.{BoxRecord}
use Rattle.edits.specs.declared.Entry.{Entry}
use Rattle.edits.specs.declared.Change.{Change}
use Rattle.edits.specs.declared.Change.TheVariants.{Add, Delete, Draw, Erase}

-- the entry, or why there is none
abbrev pub Plan : Type 0
Plan = Result Entry Refusal

-- ---- the entries
abbrev pub added : ℕ → Entry
added id = record { kind = ADD; at = 0; to = 0; id = id; out = 0; into = 0 }

abbrev pub deletion : List BoxRecord → ℕ → Entry
deletion list p = record { kind = DELETE; at = p; to = 0; id = (at list p).id; out = (at list p).arrows; into = column_of list p }

abbrev pub arrow : ℕ → ℕ → ℕ → Entry
arrow kind i j = record { kind = kind; at = i; to = j; id = 0; out = 0; into = 0 }

-- ---- the refusals, in their order: LongHistory, UnknownId, UsedId, NoRoom, Arrow
abbrev pub plan_delete : List BoxRecord → ℕ → Plan
plan_delete list id = choose (eqb (place list id) BOXES) (Err UnknownId) (Ok (deletion list (place list id)))

-- the arrow from i to j, where its bit is b
abbrev pub plan_arrow : List BoxRecord → ℕ → ℕ → ℕ → ℕ → Plan
plan_arrow list kind b i j =
    choose (eqb i BOXES) (Err UnknownId) (choose (eqb j BOXES) (Err UnknownId)
    (choose (eqb i j) (Err Arrow) (choose (eqb (bit j (at list i).arrows) b) (Ok (arrow kind i j)) (Err Arrow))))

abbrev pub plan_change : List BoxRecord → History → Change → Plan
plan_change list h (Add id) =
    choose (ltb (place list id) BOXES) (Err UsedId) (choose (deleted h id) (Err UsedId)
    (choose (eqb (boxes list) BOXES) (Err NoRoom) (Ok (added id))))
plan_change list h (Delete id) = plan_delete list id
plan_change list h (Draw source target) = plan_arrow list DRAW 0 (place list source) (place list target)
plan_change list h (Erase source target) = plan_arrow list ERASE 1 (place list source) (place list target)

unfoldable pub plan : List BoxRecord → History → Change → Plan
plan list h change = choose (eqb h.count EDITS) (Err LongHistory) (plan_change list h change)
