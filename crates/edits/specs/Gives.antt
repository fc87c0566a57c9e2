-- The request's own words on undo: a list allowed beside the rest h of the history gives the list l by the edit e.
use Rattle.std.specs.Prelude.{◌≡◌, true, List, Ok, length}
use Rattle.model.specs.Limits.{BOXES}
use Rattle.edits.specs.History.{History}
use Rattle.edits.specs.Allowed.{allowed}
use Rattle.edits.specs.Plan.{plan}
use Rattle.edits.specs.Done.{done}
use Rattle.edits.specs.declared.BoxRecord.{BoxRecord}
use Rattle.edits.specs.declared.Change.{Change}
use Rattle.edits.specs.declared.Entry.{Entry}

pub record Gives (before : List BoxRecord) (h : History) (e : Entry) (l : List BoxRecord) : Type 0 where
  pub long : length before ≡ BOXES
  pub good : allowed before h ≡ true
  pub change : Change
  pub plans : plan before h change ≡ Ok e
  pub gives : done e before ≡ l
