-- An allowed list, in facts.
-- Assumes nothing.
use mathlib.Core.Path.{◌≡◌, refl, sym, ap, ◌∙◌}
use mathlib.Core.Bool.{true, false, not}
use mathlib.Core.List.{List}
use mathlib.Core.Logic.{⊎_elim}
use Prim.Native.Nat.{ℕ, ◌<◌, ◌≤◌, ◌^◌}
use native.Mathlib.Omega.{arith}
use lib.ListN.{length, get_or-eq_default}
use borrow.Author.Tests.{ltb-true, lt-ltb, le-ltb, leb-true, le-leb, eqb-true, eq-eqb, ne_eqb, not-true}
use Rattle.laws.specs.Choice.{both, choose}
use Rattle.laws.specs.Bits.{bit}
use Rattle.laws.proofs.Tests.{both_true, both_of, both_no, false_of}
use Rattle.laws.proofs.Range.{every_at, every_of, first_at, first_none}
use Rattle.model.specs.Limits.{BOXES, EDITS}
use Rattle.edits.specs.Records.{blank, at, lives, is_with, boxes, place}
use Rattle.edits.specs.History.{History, deleted}
use Rattle.edits.specs.Allowed.{good_entry, is_blank, is_box, good_at, allowed}
use Rattle.edits.specs.declared.BoxRecord.{BoxRecord}
use Rattle.edits.proofs.Found.{below_or, boxes_most, lives_at, boxes_are}

-- a list of n boxes
pub record Listed (n : ℕ) (l : List BoxRecord) : Type 0 where
  pub long : length l ≡ BOXES
  pub most : n ≤ BOXES
  pub live : (k : ℕ) → k < n → (at l k).live ≡ 1
  pub rest : (k : ℕ) → n ≤ k → at l k ≡ blank
  pub within : (k : ℕ) → k < n → (at l k).arrows < 2 ^ n
  pub other : (k : ℕ) → k < n → bit k (at l k).arrows ≡ 0
  pub apart : (j k : ℕ) → j < n → k < n → (at l j).id ≡ (at l k).id → j ≡ k

-- and allowed beside a history
pub record Sound (n : ℕ) (l : List BoxRecord) (h : History) : Type 0 where
  pub list : Listed n l
  pub few : h.count ≤ EDITS
  pub entries : (k : ℕ) → k < h.count → good_entry h.words k ≡ true
  pub kept : (k : ℕ) → k < n → deleted h (at l k).id ≡ false

blank_is : (box : BoxRecord) → is_blank box ≡ true → box ≡ blank
blank_is box e =
    let f = both_true _ _ e in
    let g = both_true _ _ f.1 in
    rw (eqb-true box.id 0 f.0, eqb-true box.live 0 g.0, eqb-true box.arrows 0 g.1)

record Box (l : List BoxRecord) (h : History) (n k : ℕ) : Type 0 where
  own : place l (at l k).id ≡ k
  kept : deleted h (at l k).id ≡ false
  within : (at l k).arrows < 2 ^ n
  other : bit k (at l k).arrows ≡ 0

is_box_lem : (l : List BoxRecord) (h : History) (n k : ℕ) → is_box l h n k ≡ true → Box l h n k
is_box_lem l h n k e =
    let f = both_true _ _ e in
    let g = both_true _ _ f.1 in
    let i = both_true _ _ g.1 in
    record { own = eqb-true _ _ f.0; kept = not-true _ g.0; within = ltb-true _ _ i.0; other = eqb-true _ _ i.1 }

pub sound : (l : List BoxRecord) (h : History) → length l ≡ BOXES → allowed l h ≡ true → Sound (boxes l) l h
unfolding allowed good_at choose
sound l h long e =
    let f = both_true _ _ e in
    let g = both_true _ _ f.1 in
    let box : (k : ℕ) → k < boxes l → Box l h (boxes l) k = (λ k s.
    is_box_lem l h (boxes l) k (rw (lt-ltb k (boxes l) s) at (every_at BOXES (good_at l h (boxes l)) g.1 k (omega (arith, boxes_most l))))) in
    record {
      list = record {
        long = long;
        most = boxes_most l;
        live = lives_at l;
        rest = λ k s. ⊎_elim
            (λ (b : k < BOXES). blank_is (at l k) (rw (le-ltb k (boxes l) s) at (every_at BOXES (good_at l h (boxes l)) g.1 k b)))
            (λ (b : BOXES ≤ k). get_or-eq_default l blank (omega arith))
            (below_or k BOXES);
        within = λ k s. (box k s).within;
        other = λ k s. (box k s).other;
        apart = λ j k s t q. sym (box j s).own ∙ ap (place l) q ∙ (box k t).own;
      };
      few = leb-true _ _ f.0;
      entries = every_at h.count (good_entry h.words) g.0;
      kept = λ k s. (box k s).kept;
    }

pub listed_boxes : {n : ℕ} {l : List BoxRecord} → Listed n l → boxes l ≡ n
listed_boxes {n} {l} s = boxes_are n l s.most s.live (λ b. s.rest n (omega arith))

-- a live record is one of the n
pub listed_live : {n : ℕ} {l : List BoxRecord} → Listed n l → (k : ℕ) → (at l k).live ≡ 1 → k < n
listed_live {n} {l} s k v = ⊎_elim (λ (t : k < n). t) (λ (t : n ≤ k). absurd (let z : 0 ≡ 1 = sym (ap (λ (box : BoxRecord). box.live) (s.rest k t)) ∙ v in omega arith)) (below_or k n)

pub listed_place : {n : ℕ} {l : List BoxRecord} → Listed n l → (k : ℕ) → k < n → place l (at l k).id ≡ k
unfolding place
listed_place {n} {l} s k b =
    first_at BOXES (λ j. is_with (at l j) (at l k).id) k (omega (arith, s.most))
    (λ j t. both_no (lives (at l j)) (ne_eqb _ _ (λ q. let e : j ≡ k = s.apart j k (omega arith) b q in omega arith)))
    (both_of (eq-eqb _ _ (s.live k b)) (eq-eqb (at l k).id (at l k).id refl))

-- an id that no box has
pub listed_none : {n : ℕ} {l : List BoxRecord} → Listed n l → (i : ℕ) → ((k : ℕ) → k < n → (at l k).id ≡ i → ⊥) → place l i ≡ BOXES
unfolding place
listed_none {n} {l} s i f =
    first_none BOXES (λ j. is_with (at l j) i) (λ j b. false_of (λ e.
    let p = both_true _ _ e in
    f j (listed_live s j (eqb-true _ _ p.0)) (eqb-true _ _ p.1)))

blank_blank : is_blank blank ≡ true
unfolding both
blank_blank = refl

pub sound_allowed : {n : ℕ} {l : List BoxRecord} {h : History} → Sound n l h → allowed l h ≡ true
unfolding allowed good_at choose
sound_allowed {n} {l} {h} s =
    let e : boxes l ≡ n = listed_boxes s.list in
    both_of (le-leb _ _ s.few) (both_of (every_of h.count (good_entry h.words) s.entries) (rw e
    (every_of BOXES (good_at l h n) (λ k b. ⊎_elim
    (λ (t : k < n). rw (lt-ltb k n t) (both_of (eq-eqb _ _ (listed_place s.list k t)) (both_of (ap not (s.kept k t)) (both_of (lt-ltb _ _ (s.list.within k t)) (eq-eqb _ _ (s.list.other k t))))))
    (λ (t : n ≤ k). rw (le-ltb k n t) (ap is_blank (s.list.rest k t) ∙ blank_blank))
    (below_or k n)))))
