-- A deletion moves the boxes behind it, and the positions of all arrows, down by one; undoing it moves them up again.
use Rattle.std.specs.Prelude.{List, ℕ, ◌+◌, ◌-◌, ltb, eqb}
use Rattle.laws.specs.Choice.{choose}
use Rattle.laws.specs.Range.{tabulate}
use Rattle.laws.specs.Bits.{bit, cut, put, gather}
use Rattle.model.specs.Limits.{BOXES}
use Rattle.edits.specs.Records.{at}
use Rattle.edits.specs.declared.BoxRecord.{BoxRecord}

abbrev pub with_arrows : BoxRecord → ℕ → BoxRecord
with_arrows box set = record { id = box.id; live = box.live; arrows = set }

-- where the box stood that stands at k once the one at p is deleted; and back
abbrev pub skip : ℕ → ℕ → ℕ
skip p k = choose (ltb k p) k (k + 1)

abbrev pub unskip : ℕ → ℕ → ℕ
unskip p k = choose (ltb k p) k (k - 1)

-- the boxes with an arrow into the one at p
abbrev pub arrow_into : List BoxRecord → ℕ → ℕ → ℕ
arrow_into list p k = bit p (at list k).arrows

unfoldable pub column_of : List BoxRecord → ℕ → ℕ
column_of list p = gather 0 BOXES (arrow_into list p)

-- without the box at p
abbrev pub left_at : List BoxRecord → ℕ → ℕ → BoxRecord
left_at list p k = with_arrows (at list (skip p k)) (cut p (at list (skip p k)).arrows)

unfoldable pub without_box : List BoxRecord → ℕ → List BoxRecord
without_box list p = tabulate BOXES (left_at list p)

-- with this box at p, and arrows into it from the boxes of a set
abbrev pub back_at : List BoxRecord → ℕ → BoxRecord → ℕ → ℕ → BoxRecord
back_at list p box into k =
    choose (eqb k p) box (with_arrows (at list (unskip p k)) (put p (bit k into) (at list (unskip p k)).arrows))

unfoldable pub with_box : List BoxRecord → ℕ → BoxRecord → ℕ → List BoxRecord
with_box list p box into = tabulate BOXES (back_at list p box into)
