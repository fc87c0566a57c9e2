-- The demand on edits: ours meets it, and the old fault does not, whichever way it is built.
-- Assumes nothing.
use mathlib.Core.Path.{◌≡◌, refl, sym, ap, ◌∙◌}
use mathlib.Core.List.{List, ◌∷◌}
use Prim.Native.Nat.{ℕ, ◌+◌, ◌-◌, ◌<◌}
use native.Mathlib.Omega.{arith}
use lib.ListN.{replicate}
use Rattle.laws.specs.Choice.{both, either, brings, choose}
use Rattle.laws.specs.Range.{every, some, first, tabulate}
use Rattle.laws.specs.Bits.{bit, cut, put, gather}
use Rattle.laws.proofs.Tables.{zero_at}
use Rattle.model.specs.Limits.{BOXES, EDIT_WORDS}
use Rattle.edits.specs.Records.{blank, at, boxes, place}
use Rattle.edits.specs.History.{History, fresh, entry, ending_at, ending, deleted_by, newest, keep, push}
use Rattle.edits.specs.Allowed.{made, good_entry, good_at, allowed}
use Rattle.edits.specs.Moved.{with_arrows, skip, column_of, without_box, with_box, unskip}
use Rattle.edits.specs.Plan.{deletion, plan}
use Rattle.edits.specs.Done.{new_box, done}
use Rattle.edits.specs.Edited.{Edited, accepted, edited, planned}
use Rattle.edits.specs.Demand.{Answers, Tidy, between, Demand}
use Rattle.edits.specs.declared.BoxRecord.{BoxRecord}
use Rattle.edits.specs.declared.Change.TheVariants.{Add, Delete, Draw, Erase}
use Rattle.edits.specs.declared.Request.TheVariants.{Make, Undo, Drop, Unknown}
use Rattle.edits.specs.declared.Entry.{Entry}
use Rattle.edits.proofs.Found.{place_live}
use Rattle.edits.proofs.Fine.{Listed, listed_live, listed_place}
use Rattle.edits.proofs.Listed.{left_id, listed_without}
use Rattle.edits.proofs.Moved.{left_is, bit_skip}
use Rattle.edits.proofs.Restored.{skip_unskip, unskip_below}
use Rattle.edits.proofs.Promises.{undo_good_exact, delete_plan, took, found}

-- ---- ours
-- the box with an id, after another was deleted
module _ {n : ℕ} {l : List BoxRecord} (s : Listed n l) (p : ℕ) (b : p < n) where
  moved_place : (a : ℕ) → place l a < BOXES → (place l a ≡ p → ⊥) → place (without_box l p) a ≡ unskip p (place l a)
  moved_place a t ne =
      let live = place_live l a t in
      let k : place l a < n = listed_live s (place l a) live.0 in
      let up : n - 1 + 1 ≡ n = omega arith in
      let u : unskip p (place l a) < n - 1 = unskip_below p (place l a) (n - 1) (omega arith) (omega arith) ne in
      ap (place (without_box l p)) (sym live.1 ∙ ap (λ (j : ℕ). (at l j).id) (sym (skip_unskip p (place l a) ne)) ∙ sym (left_id s p b (unskip p (place l a)) u))
      ∙ listed_place (listed_without s p b) (unskip p (place l a)) u

  moved_arrow : (i j : ℕ) → i < n → (i ≡ p → ⊥) → (j ≡ p → ⊥) → bit (unskip p j) (at (without_box l p) (unskip p i)).arrows ≡ bit j (at l i).arrows
  moved_arrow i j t ni nj =
      let up : n - 1 + 1 ≡ n = omega arith in
      let u : unskip p i < n - 1 = unskip_below p i (n - 1) (omega arith) (omega arith) ni in
      rw (left_is l p (unskip p i) (omega (arith, s.most)), skip_unskip p i ni) (bit_skip p (unskip p j) (at l i).arrows ∙ rw (skip_unskip p j nj))

ours_keeps : (l : List BoxRecord) (h : History) (id : ℕ) → (edited l h (Make (Delete id))).number ≡ 0 → (a b : ℕ) → (a ≡ id → ⊥) → (b ≡ id → ⊥)
    → place l a < BOXES → place l b < BOXES → between (edited l h (Make (Delete id))).list a b ≡ between l a b
unfolding done choose
ours_keeps l h id z a b na nb pa pb =
    let d = delete_plan l h id _ (took l h (Delete id) z).plans in
    let s : Listed (boxes l) l = (found l h (Delete id) z).list in
    let p : place l id < boxes l = listed_live s (place l id) (place_live l id d.1).0 in
    let is : (edited l h (Make (Delete id))).list ≡ without_box l (place l id) = ap (λ (x : Edited). x.list) (took l h (Delete id) z).is ∙ rw d.0 in
    let apart : (i : ℕ) → place l i < BOXES → (i ≡ id → ⊥) → place l i ≡ place l id → ⊥ = (λ i t n e. n (sym (place_live l i t).1 ∙ ap (λ (k : ℕ). (at l k).id) e ∙ (place_live l id d.1).1)) in
    rw (is, moved_place s (place l id) p a pa (apart a pa na), moved_place s (place l id) p b pb (apart b pb nb))
    (moved_arrow s (place l id) p (place l a) (place l b) (listed_live s (place l a) (place_live l a pa).0) (apart a pa na) (apart b pb nb))

pub ours : Demand edited
ours = record {
  undoes = λ l h t c z. undo_good_exact l h (t.fits, (t.good, t.clean)) c z;
  keeps = λ l h t id z a b. ours_keeps l h id z a b;
}

-- ---- the fakes: ours but for the undo of a deletion, or for the deletion
abbrev on_undo : (Entry → List BoxRecord → List BoxRecord) → Answers
on_undo g l h (Make c) = edited l h (Make c)
on_undo g l h Undo = accepted (g (newest h) l) (keep (h.count - 1) h)
on_undo g l h Drop = edited l h Drop
on_undo g l h Unknown = edited l h Unknown

-- the box comes back behind the others
abbrev at_end : Answers
at_end = on_undo (λ e l. with_box l (boxes l) (with_arrows (new_box e.id) e.out) e.into)

-- its own arrows come back, and those into it do not
abbrev rows_only : Answers
rows_only = on_undo (λ e l. with_box l e.at (with_arrows (new_box e.id) e.out) 0)

-- arrows are kept by slots: whoever moves into a box's slot has its arrows
abbrev slot_at : List BoxRecord → ℕ → ℕ → BoxRecord
slot_at l p k = with_arrows (at l (skip p k)) (at l k).arrows

abbrev by_slots : Answers
by_slots l h (Make (Add i)) = edited l h (Make (Add i))
by_slots l h (Make (Delete i)) = accepted (tabulate BOXES (slot_at l (place l i))) (push h (deletion l (place l i)))
by_slots l h (Make (Draw a b)) = edited l h (Make (Draw a b))
by_slots l h (Make (Erase a b)) = edited l h (Make (Erase a b))
by_slots l h Undo = edited l h Undo
by_slots l h Drop = edited l h Drop
by_slots l h Unknown = edited l h Unknown

-- ---- three boxes in a row
abbrev three : List BoxRecord
three = with_arrows (new_box 1) 2 ∷ with_arrows (new_box 2) 4 ∷ new_box 3 ∷ replicate (BOXES - 3) blank

three_tidy : Tidy three fresh
unfolding both either brings choose every some first tabulate bit cut put gather boxes place entry ending_at ending deleted_by made good_entry good_at allowed column_of without_box with_box plan done planned edited
three_tidy = record { fits = refl; good = refl; clean = λ j _. zero_at EDIT_WORDS j }

pub not_at_end : Demand at_end → ⊥
unfolding both either brings choose every some first tabulate bit cut put gather boxes place entry ending_at ending deleted_by made good_entry good_at allowed column_of without_box with_box plan done planned edited
not_at_end d = let z : ◌≡◌ {A = ℕ} 3 2 = ap (λ (x : Edited). (at x.list 1).id) (d.undoes three fresh three_tidy (Delete 2) refl) in omega arith

pub not_rows_only : Demand rows_only → ⊥
unfolding both either brings choose every some first tabulate bit cut put gather boxes place entry ending_at ending deleted_by made good_entry good_at allowed column_of without_box with_box plan done planned edited
not_rows_only d = let z : ◌≡◌ {A = ℕ} 0 2 = ap (λ (x : Edited). (at x.list 0).arrows) (d.undoes three fresh three_tidy (Delete 2) refl) in omega arith

-- the arrow into the deleted box goes to the one that moved into its slot
pub not_by_slots : Demand by_slots → ⊥
unfolding both either brings choose every some first tabulate bit cut put gather boxes place entry ending_at ending deleted_by made good_entry good_at allowed column_of without_box with_box plan done planned edited
not_by_slots d =
    let first : place three 1 < BOXES = (let l : 0 < BOXES = omega arith in l) in
    let third : place three 3 < BOXES = (let l : 2 < BOXES = omega arith in l) in
    let z : ◌≡◌ {A = ℕ} 1 0 = d.keeps three fresh three_tidy 2 refl 1 3 (λ e. omega arith) (λ e. omega arith) first third in omega arith
