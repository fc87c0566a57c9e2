-- A call's whole result, for every input: its number, 0 or the refusal's, with the list and the history afterwards.
use Rattle.std.specs.Prelude.{Bool, List, ℕ, Result, Ok, Err, ◌-◌, length, eqb}
use Rattle.laws.specs.Choice.{both, choose}
use Rattle.model.specs.Limits.{BOXES, EDIT_WORDS}
use Rattle.model.specs.Refusal.{number_of}
use Rattle.model.specs.declared.refusal.Refusal.{Refusal}
use Rattle.model.specs.declared.refusal.Refusal.TheVariants.{Length, Rules, NothingToUndo}
use Rattle.edits.specs.History.{History, past, ADD, DELETE, DRAW, ERASE, fresh, push, keep, newest}
use Rattle.edits.specs.Allowed.{allowed}
use Rattle.edits.specs.Plan.{Plan, plan}
use Rattle.edits.specs.Done.{done, undone}
use Rattle.edits.specs.Fits.{fits}
use Rattle.edits.specs.declared.BoxRecord.{BoxRecord}
use Rattle.edits.specs.declared.Change.TheVariants.{Add, Delete, Draw, Erase}
use Rattle.edits.specs.declared.Request.{Request}
use Rattle.edits.specs.declared.Request.TheVariants.{Make, Undo, Drop, Unknown}

-- ---- what is asked for
abbrev pub UNDO : ℕ
UNDO = 5

abbrev pub DROP : ℕ
DROP = 6

-- by its kind and two ids
unfoldable pub asked : ℕ → ℕ → ℕ → Request
asked kind first second =
    choose (eqb kind ADD) (Make (Add first))
    (choose (eqb kind DELETE) (Make (Delete first))
    (choose (eqb kind DRAW) (Make (Draw first second))
    (choose (eqb kind ERASE) (Make (Erase first second))
    (choose (eqb kind UNDO) Undo
    (choose (eqb kind DROP) Drop Unknown)))))

-- ---- the answer
pub record Edited : Type 0 where
  pub number : ℕ
  pub list : List BoxRecord
  pub history : History

-- 0, or the refusal's
abbrev pub number : {A : Type 0} → Result A Refusal → ℕ
number (Ok _) = 0
number (Err refusal) = number_of refusal

abbrev pub outcome : ℕ → List BoxRecord → ℕ → List ℕ → Edited
outcome number list count words = record { number = number; list = list; history = past count words }

abbrev pub refused : List BoxRecord → History → Refusal → Edited
refused list h refusal = record { number = number_of refusal; list = list; history = h }

abbrev pub accepted : List BoxRecord → History → Edited
accepted list h = record { number = 0; list = list; history = h }

unfoldable pub planned : List BoxRecord → History → Plan → Edited
planned list h (Ok e) = accepted (done e list) (push h e)
planned list h (Err refusal) = refused list h refusal

unfoldable pub undo : List BoxRecord → History → Edited
undo list h =
    choose (eqb h.count 0) (refused list h NothingToUndo)
    (choose (fits (newest h) list) (accepted (undone (newest h) list) (keep (h.count - 1) h)) (refused list h Rules))

abbrev pub answered : List BoxRecord → History → Request → Edited
answered list h (Make change) = planned list h (plan list h change)
answered list h Undo = undo list h
answered list h Drop = accepted list fresh
answered list h Unknown = refused list h Rules

-- the lengths that are lent
abbrev pub fitting : List BoxRecord → History → Bool
fitting list h = both (eqb (length list) BOXES) (eqb (length h.words) EDIT_WORDS)

-- the list's own faults are told before those of the request
abbrev pub checked : List BoxRecord → History → Request → Edited
checked list h request = choose (allowed list h) (answered list h request) (refused list h Rules)

unfoldable pub edited : List BoxRecord → History → Request → Edited
edited list h request = choose (fitting list h) (checked list h request) (refused list h Length)
