-- The list of box records: the boxes first, in their order, and the rest blank. Bit u of arrows: an arrow to the box at u.
use Rattle.std.specs.Prelude.{Bool, not, List, ℕ, get_or, eqb}
use Rattle.laws.specs.Choice.{both}
use Rattle.laws.specs.Range.{first}
use Rattle.model.specs.Limits.{BOXES}
use Rattle.edits.specs.declared.BoxRecord.{BoxRecord}

abbrev pub blank : BoxRecord
blank = record { id = 0; live = 0; arrows = 0 }

abbrev pub at : List BoxRecord → ℕ → BoxRecord
at list k = get_or list k blank

-- the record is a box
abbrev pub lives : BoxRecord → Bool
lives box = eqb box.live 1

-- the record is a box with this id
abbrev pub is_with : BoxRecord → ℕ → Bool
is_with box id = both (lives box) (eqb box.id id)

-- how many boxes stand: those before the first record that is none
unfoldable pub boxes : List BoxRecord → ℕ
boxes list = first BOXES (λ k. not (lives (at list k)))

-- where the box with this id stands, and BOXES where there is none
unfoldable pub place : List BoxRecord → ℕ → ℕ
place list id = first BOXES (λ k. is_with (at list k) id)
