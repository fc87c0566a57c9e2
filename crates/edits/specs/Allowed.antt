-- When a list is allowed beside a history: both as they stand, nothing is replayed.
use Rattle.std.specs.Prelude.{Bool, false, not, List, ℕ, ◌^◌, ltb, leb, eqb}
use Rattle.laws.specs.Choice.{both, brings, choose}
use Rattle.laws.specs.Range.{every}
use Rattle.laws.specs.Bits.{bit}
use Rattle.model.specs.Limits.{BOXES, EDITS}
use Rattle.edits.specs.Records.{at, boxes, place}
use Rattle.edits.specs.History.{History, ADD, DELETE, DRAW, ERASE, entry, deleted_by, deleted}
use Rattle.edits.specs.declared.BoxRecord.{BoxRecord}
use Rattle.edits.specs.declared.Entry.{Entry}

-- ---- an entry that a call makes: what its kind does not use is 0
abbrev pub made_add : Entry → Bool
made_add e = both (eqb e.at 0) (both (eqb e.to 0) (both (eqb e.out 0) (eqb e.into 0)))

-- a set of positions, without p
abbrev pub row_of : ℕ → ℕ → Bool
row_of p set = both (ltb set (2 ^ BOXES)) (eqb (bit p set) 0)

abbrev pub made_delete : Entry → Bool
made_delete e = both (ltb e.at BOXES) (both (eqb e.to 0) (both (row_of e.at e.out) (row_of e.at e.into)))

abbrev pub made_arrow : Entry → Bool
made_arrow e =
    both (ltb e.at BOXES) (both (ltb e.to BOXES) (both (not (eqb e.at e.to))
    (both (eqb e.id 0) (both (eqb e.out 0) (eqb e.into 0)))))

unfoldable pub made : Entry → Bool
made e =
    choose (eqb e.kind ADD) (made_add e)
    (choose (eqb e.kind DELETE) (made_delete e)
    (choose (eqb e.kind DRAW) (made_arrow e)
    (choose (eqb e.kind ERASE) (made_arrow e) false)))

-- ---- the history: an id that the entry at k adds or deletes is not deleted before it
unfoldable pub good_entry : List ℕ → ℕ → Bool
good_entry words k = both (made (entry words k)) (brings (leb (entry words k).kind DELETE) (not (deleted_by words k (entry words k).id)))

-- ---- the list
abbrev pub is_blank : BoxRecord → Bool
is_blank box = both (eqb box.id 0) (both (eqb box.live 0) (eqb box.arrows 0))

-- the record at k, of n boxes: an id of its own that is not deleted, and arrows to others of the n
abbrev pub is_box : List BoxRecord → History → ℕ → ℕ → Bool
is_box list h n k =
    both (eqb (place list (at list k).id) k) (both (not (deleted h (at list k).id))
    (both (ltb (at list k).arrows (2 ^ n)) (eqb (bit k (at list k).arrows) 0)))

unfoldable pub good_at : List BoxRecord → History → ℕ → ℕ → Bool
good_at list h n k = choose (ltb k n) (is_box list h n k) (is_blank (at list k))

unfoldable pub allowed : List BoxRecord → History → Bool
allowed list h = both (leb h.count EDITS) (both (every h.count (good_entry h.words)) (every BOXES (good_at list h (boxes list))))
