-- The entries that are made of a list, and that undoing one gives the list before.
-- Assumes nothing.
use mathlib.Core.Path.{◌≡◌, refl, sym, ap, subst, ◌∙◌}
use mathlib.Core.Bool.{false}
use mathlib.Core.List.{List}
use Prim.Native.Nat.{ℕ, ◌+◌, ◌-◌, ◌<◌, ◌≤◌, ◌^◌}
use native.Mathlib.Omega.{arith}
use lib.ListN.{length, set, length-set}
use lib.Seq.{get_or-set_same, get_or-set_other, set-set, set-get_or}
use lib.Dec.{ltb, eqb}
use borrow.Author.Count.{below_more}
use borrow.Author.Tests.{ltb-false, eqb-true, eqb-false}
use Rattle.laws.specs.Choice.{choose}
use Rattle.laws.specs.Bits.{bit}
use Rattle.laws.proofs.Chosen.{chosen}
use Rattle.laws.proofs.Bits.{bit_part}
use Rattle.model.specs.Limits.{BOXES, EDITS}
use Rattle.edits.specs.Records.{blank, at, boxes, place}
use Rattle.edits.specs.History.{History, DRAW, ERASE, deleted}
use Rattle.edits.specs.Moved.{with_arrows}
use Rattle.edits.specs.Plan.{Plan, added, deletion, arrow, plan_arrow, plan_change, plan}
use Rattle.edits.specs.Done.{new_box, done, undone}
use Rattle.edits.specs.declared.BoxRecord.{BoxRecord}
use Rattle.edits.specs.declared.Entry.{Entry}
use Rattle.edits.specs.declared.Change.{Change}
use Rattle.edits.specs.declared.Change.TheVariants.{Add, Delete, Draw, Erase}
use Rattle.std.specs.Prelude.{Ok, Err}
use Rattle.edits.proofs.Found.{boxes_most, boxes_are, place_live, known}
use Rattle.edits.proofs.Moved.{left_long, with_without}
use Rattle.edits.proofs.Fine.{Listed}

pub data Gave (l : List BoxRecord) (h : History) : Entry → Type 0 where
  adding : (i : ℕ) → (place l i < BOXES → ⊥) → deleted h i ≡ false → boxes l < BOXES → Gave l h (added i)
  deleting : (p : ℕ) → p < BOXES → (at l p).live ≡ 1 → Gave l h (deletion l p)
  drawing : (i j : ℕ) → i < BOXES → j < BOXES → (at l i).live ≡ 1 → (at l j).live ≡ 1 → (i ≡ j → ⊥) → bit j (at l i).arrows ≡ 0 → Gave l h (arrow DRAW i j)
  erasing : (i j : ℕ) → i < BOXES → j < BOXES → (at l i).live ≡ 1 → (at l j).live ≡ 1 → (i ≡ j → ⊥) → bit j (at l i).arrows ≡ 1 → Gave l h (arrow ERASE i j)

-- what is known of a plan that is no refusal
abbrev Result : List BoxRecord → History → Plan → Type 0
Result l h (Ok e) = Gave l h e
Result l h (Err _) = Unit {0}

arrow_gave : (l : List BoxRecord) (h : History) (kind b : ℕ) (x y : ℕ)
    → ((i j : ℕ) → i < BOXES → j < BOXES → (at l i).live ≡ 1 → (at l j).live ≡ 1 → (i ≡ j → ⊥) → bit j (at l i).arrows ≡ b → Gave l h (arrow kind i j))
    → Result l h (plan_arrow l kind b (place l x) (place l y))
arrow_gave l h kind b x y g =
    chosen (Result l h) (eqb (place l x) BOXES) _ _ (λ _. tt) (λ ex.
    chosen (Result l h) (eqb (place l y) BOXES) _ _ (λ _. tt) (λ ey.
    chosen (Result l h) (eqb (place l x) (place l y)) _ _ (λ _. tt) (λ ne.
    chosen (Result l h) (eqb (bit (place l y) (at l (place l x)).arrows) b) _ _
    (λ eb. g (place l x) (place l y) (known l x ex) (known l y ey) (place_live l x (known l x ex)).0 (place_live l y (known l y ey)).0 (eqb-false _ _ ne) (eqb-true _ _ eb))
    (λ _. tt))))

change_gave : (l : List BoxRecord) (h : History) (q : Change) → Result l h (plan_change l h q)
change_gave l h (Add i) =
    chosen (Result l h) (ltb (place l i) BOXES) _ _ (λ _. tt) (λ a.
    chosen (Result l h) (deleted h i) _ _ (λ _. tt) (λ b.
    chosen (Result l h) (eqb (boxes l) BOXES) _ _ (λ _. tt) (λ d.
    let le : BOXES ≤ place l i = ltb-false _ _ a in
    let ne : boxes l ≡ BOXES → ⊥ = eqb-false _ _ d in
    adding i (λ s. omega arith) b (omega (arith, boxes_most l)))))
change_gave l h (Delete i) =
    chosen (Result l h) (eqb (place l i) BOXES) _ _ (λ _. tt) (λ e. deleting (place l i) (known l i e) (place_live l i (known l i e)).0)
change_gave l h (Draw a b) = arrow_gave l h DRAW 0 a b drawing
change_gave l h (Erase a b) = arrow_gave l h ERASE 1 a b erasing

-- a plan that is no refusal is one of the four
pub plan_gave : (l : List BoxRecord) (h : History) (q : Change) (e : Entry) → plan l h q ≡ Ok e → Gave l h e
unfolding plan
plan_gave l h q e z = subst (Result l h) z (chosen (Result l h) (eqb h.count EDITS) _ _ (λ _. tt) (λ _. change_gave l h q))

-- and there is room for it
pub plan_room : (l : List BoxRecord) (h : History) (q : Change) (e : Entry) → plan l h q ≡ Ok e → h.count ≡ EDITS → ⊥
unfolding plan
plan_room l h q e z = subst Room z (chosen Room (eqb h.count EDITS) _ _ (λ _. tt) (λ n. of_any (plan_change l h q) (eqb-false _ _ n)))
  where
    Room : Plan → Type 0
    Room (Ok _) = h.count ≡ EDITS → ⊥
    Room (Err _) = Unit {0}

    of_any : (p : Plan) → (h.count ≡ EDITS → ⊥) → Room p
    of_any (Ok _) n = n
    of_any (Err _) n = tt

-- ---- done and undone
pub done_long : (l : List BoxRecord) (h : History) (e : Entry) → length l ≡ BOXES → Gave l h e → length (done e l) ≡ BOXES
unfolding done choose
done_long l h e n (adding i a b s) = rw length-set n
done_long l h e n (deleting p s v) = left_long l p
done_long l h e n (drawing i j s t v w d z) = rw length-set n
done_long l h e n (erasing i j s t v w d o) = rw length-set n

pub add_boxes : {n : ℕ} {l : List BoxRecord} → Listed n l → (box : BoxRecord) → n < BOXES → box.live ≡ 1 → boxes (set l n box) ≡ n + 1
add_boxes {n} {l} s box b v =
    let m : n < length l = omega (arith, s.long) in
    boxes_are (n + 1) (set l n box) (omega arith)
    (below_more (λ (k : ℕ). (at (set l n box) k).live ≡ 1) n
    (λ k t. rw (get_or-set_other l n k box blank (λ q. omega arith)) (s.live k t))
    (rw (get_or-set_same l n box blank m) v))
    (λ t. get_or-set_other l n (n + 1) box blank (λ q. omega arith) ∙ s.rest (n + 1) (omega arith))

set_back : (l : List BoxRecord) (i : ℕ) (a b : BoxRecord) → b ≡ at l i → set (set l i a) i b ≡ l
set_back l i a b e = set-set l i a b ∙ rw e (set-get_or l i blank)

pub back : (l : List BoxRecord) (h : History) (e : Entry) → Listed (boxes l) l → Gave l h e → undone e (done e l) ≡ l
unfolding done undone choose
back l h e f (adding i a b s) =
    let c : boxes (set l (boxes l) (new_box i)) - 1 ≡ boxes l = omega (arith, add_boxes f (new_box i) s refl) in
    rw c (set_back l (boxes l) (new_box i) blank (sym (f.rest (boxes l) (omega arith))))
back l h e f (deleting p s v) = rw (← v) (with_without l p f.long)
back l h e f (drawing i j s t v w d z) =
    let m : i < length l = omega (arith, f.long) in
    set_back l i (with_arrows (at l i) ((at l i).arrows + 2 ^ j)) _
    (rw (get_or-set_same l i (with_arrows (at l i) ((at l i).arrows + 2 ^ j)) blank m) (ap (with_arrows (at l i)) (omega arith)))
back l h e f (erasing i j s t v w d o) =
    let m : i < length l = omega (arith, f.long) in
    set_back l i (with_arrows (at l i) ((at l i).arrows - 2 ^ j)) _
    (rw (get_or-set_same l i (with_arrows (at l i) ((at l i).arrows - 2 ^ j)) blank m) (ap (with_arrows (at l i)) (omega (arith, bit_part j (at l i).arrows o))))
