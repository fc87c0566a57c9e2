-- The story of the four boxes, by computation: drawn, Bypass deleted, Log added, undone.
-- Assumes nothing.
use mathlib.Core.Path.{◌≡◌, refl, ap, ◌∙◌}
use mathlib.Core.List.{List, [], ◌∷◌}
use Prim.Native.Nat.{ℕ, ◌-◌}
use lib.ListN.{replicate}
use Rattle.laws.specs.Choice.{both, either, brings, choose}
use Rattle.laws.specs.Range.{every, some, first, count, tabulate}
use Rattle.laws.specs.Bits.{bit, cut, put, gather}
use Rattle.model.specs.Limits.{BOXES, EDIT_WORDS}
use Rattle.edits.specs.Records.{blank, boxes, place}
use Rattle.edits.specs.History.{entry, ending_at, ending, deleted_by, past}
use Rattle.edits.specs.Allowed.{made, good_entry, good_at, allowed}
use Rattle.edits.specs.Moved.{column_of, without_box, with_box}
use Rattle.edits.specs.Plan.{plan}
use Rattle.edits.specs.Done.{done, undone}
use Rattle.edits.specs.Fits.{fits}
use Rattle.edits.specs.Edited.{Edited, accepted, planned, undo, edited}
use Rattle.edits.specs.Promises.{after}
use Rattle.edits.specs.Story.{arrows_of, touching, adds, draws, start, picture}
use Rattle.edits.specs.declared.BoxRecord.{BoxRecord}
use Rattle.edits.specs.declared.Change.TheVariants.{Add, Delete}
use Rattle.edits.specs.declared.Request.{Request}
use Rattle.edits.specs.declared.Request.TheVariants.{Make, Undo, Drop}

abbrev box : ℕ → ℕ → BoxRecord
box i x = record { id = i; live = 1; arrows = x }

-- the four boxes, alone
abbrev alone : Edited
alone = accepted (box 1 0 ∷ box 2 0 ∷ box 3 0 ∷ box 4 0 ∷ replicate (BOXES - 4) blank)
    (past 4 (1 ∷ 0 ∷ 0 ∷ 1 ∷ 0 ∷ 0 ∷ 1 ∷ 0 ∷ 0 ∷ 2 ∷ 0 ∷ 0 ∷ 1 ∷ 0 ∷ 0 ∷ 3 ∷ 0 ∷ 0 ∷ 1 ∷ 0 ∷ 0 ∷ 4 ∷ 0 ∷ 0 ∷ replicate (EDIT_WORDS - 24) 0))

-- and with their arrows
abbrev four : Edited
four = accepted (box 1 6 ∷ box 2 8 ∷ box 3 8 ∷ box 4 0 ∷ replicate (BOXES - 4) blank)
    (past 8 (1 ∷ 0 ∷ 0 ∷ 1 ∷ 0 ∷ 0 ∷ 1 ∷ 0 ∷ 0 ∷ 2 ∷ 0 ∷ 0 ∷ 1 ∷ 0 ∷ 0 ∷ 3 ∷ 0 ∷ 0 ∷ 1 ∷ 0 ∷ 0 ∷ 4 ∷ 0 ∷ 0
    ∷ 3 ∷ 0 ∷ 1 ∷ 0 ∷ 0 ∷ 0 ∷ 3 ∷ 0 ∷ 2 ∷ 0 ∷ 0 ∷ 0 ∷ 3 ∷ 1 ∷ 3 ∷ 0 ∷ 0 ∷ 0 ∷ 3 ∷ 2 ∷ 3 ∷ 0 ∷ 0 ∷ 0 ∷ replicate (EDIT_WORDS - 48) 0))

adds_are : after start adds ≡ alone
unfolding both either brings choose every some first tabulate bit boxes place entry ending_at ending deleted_by made good_entry good_at allowed plan done planned edited
adds_are = refl

draws_are : after alone draws ≡ four
unfolding both either brings choose every some first tabulate bit boxes place entry ending_at ending deleted_by made good_entry good_at allowed plan done planned edited
draws_are = refl

pub picture_is : picture ≡ four
picture_is = ap (λ (x : Edited). after x draws) adds_are ∙ draws_are

-- four arrows, two of them at Bypass
seen : (arrows_of four.list ≡ 4) × (touching four.list 2 ≡ 2)
unfolding choose count bit
seen = (refl, refl)

pub picture_seen : (arrows_of picture.list ≡ 4) × (touching picture.list 2 ≡ 2)
picture_seen = rw picture_is seen

-- Bypass deleted: two arrows
gone : arrows_of (after four (Make (Delete 3) ∷ [])).list ≡ 2
unfolding both either brings choose every some first count tabulate bit cut gather boxes place entry ending_at ending deleted_by made good_entry good_at allowed column_of without_box plan done planned edited
gone = refl

-- Bypass deleted, Log added, both undone: the picture, whole
back : after four (Make (Delete 3) ∷ Make (Add 5) ∷ Undo ∷ Undo ∷ []) ≡ four
unfolding both either brings choose every some first tabulate bit cut put gather boxes place entry ending_at ending deleted_by made good_entry good_at allowed column_of without_box with_box plan done undone fits planned undo edited
back = refl

-- from the first `add` on: deleted, Log added, undone twice; four arrows, two of them at Bypass
pub story : (arrows_of (after picture (Make (Delete 3) ∷ Make (Add 5) ∷ Undo ∷ Undo ∷ [])).list ≡ 4) × (touching (after picture (Make (Delete 3) ∷ Make (Add 5) ∷ Undo ∷ Undo ∷ [])).list 2 ≡ 2)
story = rw (picture_is, back) seen

-- Bypass's id is free again once the history is dropped, and not before
abbrev holds : List Request
holds = Make (Delete 3) ∷ Make (Add 3) ∷ []

abbrev frees : List Request
frees = Make (Delete 3) ∷ Drop ∷ Make (Add 3) ∷ []

held_four : (after four holds).number ≡ 14
unfolding both either brings choose every some first tabulate bit cut gather boxes place entry ending_at ending deleted_by made good_entry good_at allowed column_of without_box plan done planned edited
held_four = refl

freed_four : (after four frees).number ≡ 0
unfolding both either brings choose every some first tabulate bit cut gather boxes place entry ending_at ending deleted_by made good_entry good_at allowed column_of without_box plan done planned edited
freed_four = refl

pub held : (after picture holds).number ≡ 14
held = ap (λ (x : Edited). (after x holds).number) picture_is ∙ held_four

pub freed : (after picture frees).number ≡ 0
freed = ap (λ (x : Edited). (after x frees).number) picture_is ∙ freed_four
