-- The list after an entry's edit, and the list before it.
use Rattle.std.specs.Prelude.{List, ℕ, ◌+◌, ◌-◌, ◌^◌, set, eqb}
use Rattle.laws.specs.Choice.{choose}
use Rattle.edits.specs.Records.{blank, at, boxes}
use Rattle.edits.specs.History.{ADD, DELETE, DRAW}
use Rattle.edits.specs.Moved.{with_arrows, without_box, with_box}
use Rattle.edits.specs.declared.BoxRecord.{BoxRecord}
use Rattle.edits.specs.declared.Entry.{Entry}

abbrev pub new_box : ℕ → BoxRecord
new_box id = record { id = id; live = 1; arrows = 0 }

abbrev pub drawn : List BoxRecord → ℕ → ℕ → List BoxRecord
drawn list i j = set list i (with_arrows (at list i) ((at list i).arrows + 2 ^ j))

abbrev pub erased : List BoxRecord → ℕ → ℕ → List BoxRecord
erased list i j = set list i (with_arrows (at list i) ((at list i).arrows - 2 ^ j))

unfoldable pub done : Entry → List BoxRecord → List BoxRecord
done e list =
    choose (eqb e.kind ADD) (set list (boxes list) (new_box e.id))
    (choose (eqb e.kind DELETE) (without_box list e.at)
    (choose (eqb e.kind DRAW) (drawn list e.at e.to) (erased list e.at e.to)))

unfoldable pub undone : Entry → List BoxRecord → List BoxRecord
undone e list =
    choose (eqb e.kind ADD) (set list (boxes list - 1) blank)
    (choose (eqb e.kind DELETE) (with_box list e.at (with_arrows (new_box e.id) e.out) e.into)
    (choose (eqb e.kind DRAW) (erased list e.at e.to) (drawn list e.at e.to)))
