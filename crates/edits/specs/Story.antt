-- The story of the four boxes: Red 1, Crypto 2, Bypass 3, Black 4, and a Log 5.
use Rattle.std.specs.Prelude.{List, [], ◌∷◌, ℕ, ◌+◌, ◌*◌, ◌/◌, ◌%◌, replicate, eqb}
use Rattle.laws.specs.Range.{count}
use Rattle.laws.specs.Bits.{bit}
use Rattle.model.specs.Limits.{BOXES}
use Rattle.edits.specs.Records.{blank, at}
use Rattle.edits.specs.History.{fresh}
use Rattle.edits.specs.Edited.{Edited, accepted}
use Rattle.edits.specs.Promises.{after}
use Rattle.edits.specs.declared.BoxRecord.{BoxRecord}
use Rattle.edits.specs.declared.Change.TheVariants.{Add, Draw}
use Rattle.edits.specs.declared.Request.{Request}
use Rattle.edits.specs.declared.Request.TheVariants.{Make}

-- ---- what a user sees
-- the arrows that stand
abbrev pub arrows_of : List BoxRecord → ℕ
arrows_of list = count (BOXES * BOXES) (λ k. eqb (bit (k % BOXES) (at list (k / BOXES)).arrows) 1)

-- and those that touch the box at p
abbrev pub touching : List BoxRecord → ℕ → ℕ
touching list p = count BOXES (λ k. eqb (bit k (at list p).arrows) 1) + count BOXES (λ k. eqb (bit p (at list k).arrows) 1)

-- ---- what is done
abbrev pub adds : List Request
adds = Make (Add 1) ∷ Make (Add 2) ∷ Make (Add 3) ∷ Make (Add 4) ∷ []

abbrev pub draws : List Request
draws = Make (Draw 1 2) ∷ Make (Draw 1 3) ∷ Make (Draw 2 4) ∷ Make (Draw 3 4) ∷ []

abbrev pub start : Edited
start = accepted (replicate BOXES blank) fresh

abbrev pub picture : Edited
picture = after (after start adds) draws
