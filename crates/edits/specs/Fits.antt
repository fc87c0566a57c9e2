-- When an entry can be undone: the closed form of "some list allowed beside the rest of the history gives this one by it", which `Gives` says.
use Rattle.std.specs.Prelude.{Bool, List, ℕ, ◌+◌, ◌-◌, ◌^◌, ltb, leb, eqb}
use Rattle.laws.specs.Choice.{both, choose}
use Rattle.laws.specs.Bits.{bit}
use Rattle.model.specs.Limits.{BOXES}
use Rattle.edits.specs.Records.{at, boxes}
use Rattle.edits.specs.History.{ADD, DELETE, DRAW}
use Rattle.edits.specs.Moved.{column_of}
use Rattle.edits.specs.declared.BoxRecord.{BoxRecord}
use Rattle.edits.specs.declared.Entry.{Entry}

-- the box at p has this id, and no arrow touches it
abbrev pub alone : List BoxRecord → ℕ → ℕ → Bool
alone list p id = both (eqb (at list p).id id) (both (eqb (at list p).arrows 0) (eqb (column_of list p) 0))

-- added: the last box, alone
abbrev pub fits_add : Entry → List BoxRecord → Bool
fits_add e list = both (ltb 0 (boxes list)) (alone list (boxes list - 1) e.id)

-- deleted: room for the box, its position, and its arrows among the boxes before the deletion
abbrev pub fits_delete : Entry → List BoxRecord → Bool
fits_delete e list =
    both (ltb (boxes list) BOXES) (both (leb e.at (boxes list))
    (both (ltb e.out (2 ^ (boxes list + 1))) (ltb e.into (2 ^ (boxes list + 1)))))

-- drawn or erased: between boxes, and its bit is b
abbrev pub fits_arrow : Entry → List BoxRecord → ℕ → Bool
fits_arrow e list b = both (ltb e.at (boxes list)) (both (ltb e.to (boxes list)) (eqb (bit e.to (at list e.at).arrows) b))

unfoldable pub fits : Entry → List BoxRecord → Bool
fits e list =
    choose (eqb e.kind ADD) (fits_add e list)
    (choose (eqb e.kind DELETE) (fits_delete e list)
    (choose (eqb e.kind DRAW) (fits_arrow e list 1) (fits_arrow e list 0)))
