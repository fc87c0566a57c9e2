-- A change that is not refused leaves a list that is allowed beside the longer history.
-- Assumes nothing.
use mathlib.Core.Path.{◌≡◌, refl, sym, ap, ◌∙◌}
use mathlib.Core.Bool.{true, false, not}
use mathlib.Core.List.{List}
use Prim.Native.Nat.{ℕ, ◌+◌, ◌-◌, ◌<◌, ◌≤◌, ◌^◌}
use native.Mathlib.Omega.{arith}
use lib.ListN.{set}
use borrow.Author.Tests.{lt-ltb, eq-eqb, ne_eqb}
use Rattle.laws.specs.Choice.{both, choose}
use Rattle.laws.specs.Bits.{bit}
use Rattle.laws.proofs.Tests.{both_of}
use Rattle.laws.proofs.Bits.{bit_draw, bit_erase, draw_small, power_small}
use Rattle.model.specs.Limits.{BOXES, EDITS}
use Rattle.edits.specs.Records.{at, boxes, place}
use Rattle.edits.specs.History.{History, DELETE, DRAW, ERASE, push, deleted}
use Rattle.edits.specs.Allowed.{made}
use Rattle.edits.specs.Moved.{with_arrows, skip, without_box}
use Rattle.edits.specs.Plan.{added, deletion, arrow}
use Rattle.edits.specs.Done.{new_box, done}
use Rattle.edits.specs.declared.BoxRecord.{BoxRecord}
use Rattle.edits.specs.declared.Entry.{Entry}
use Rattle.edits.proofs.Past.{deleted_push, push_good}
use Rattle.edits.proofs.Fine.{Sound, listed_live, listed_place}
use Rattle.edits.proofs.Moved.{skip_apart, skip_below, column_bit, column_small}
use Rattle.edits.proofs.Gave.{Gave, adding, deleting, drawing, erasing}
use Rattle.edits.proofs.Listed.{by_place, at_same, at_other, listed_add, changed_id, listed_arrows, left_id, listed_without}

made_add_lem : (i : ℕ) → made (added i) ≡ true
unfolding made both choose
made_add_lem i = refl

made_draw : (i j : ℕ) → i < BOXES → j < BOXES → (i ≡ j → ⊥) → made (arrow DRAW i j) ≡ true
unfolding made choose
made_draw i j a b n = both_of (lt-ltb _ _ a) (both_of (lt-ltb _ _ b) (both_of (ap not (ne_eqb _ _ n)) (both_of refl (both_of refl refl))))

made_erase : (i j : ℕ) → i < BOXES → j < BOXES → (i ≡ j → ⊥) → made (arrow ERASE i j) ≡ true
unfolding made choose
made_erase i j a b n = both_of (lt-ltb _ _ a) (both_of (lt-ltb _ _ b) (both_of (ap not (ne_eqb _ _ n)) (both_of refl (both_of refl refl))))

module _ {n : ℕ} {l : List BoxRecord} {h : History} (s : Sound n l h) (room : h.count < EDITS) where
  add_sound : (i : ℕ) → (place l i < BOXES → ⊥) → deleted h i ≡ false → n < BOXES → Sound (n + 1) (set l n (new_box i)) (push h (added i))
  add_sound i new d b = record {
    list = listed_add s.list i b (λ k t q. new (let e : place l i ≡ k = ap (place l) (sym q) ∙ listed_place s.list k t in omega arith));
    few = omega arith;
    entries = push_good h (added i) room s.entries (made_add_lem i) (λ _. d);
    kept = λ k t. deleted_push h (added i) room (at (set l n (new_box i)) k).id (by_place n k (λ (m : ℕ). deleted h (at (set l n (new_box i)) m).id ≡ false)
        (rw (at_same s.list n (new_box i) b) d) (λ ne. rw (at_other s.list n k (new_box i) ne) (s.kept k (omega arith)))) (λ z _. omega arith);
  }

  arrows_sound : (i x : ℕ) (e : Entry) → i < n → x < 2 ^ n → bit i x ≡ 0 → (e.kind ≤ DELETE → ⊥) → made e ≡ true → Sound n (set l i (with_arrows (at l i) x)) (push h e)
  arrows_sound i x e b w z nd m = record {
    list = listed_arrows s.list i x b w z;
    few = omega arith;
    entries = push_good h e room s.entries m (λ le. absurd (nd le));
    kept = λ k t. rw (changed_id s.list i x b k) (deleted_push h e room (at l k).id (s.kept k t) (λ d _. nd (omega arith)));
  }

  made_delete_lem : (p : ℕ) → p < n → made (deletion l p) ≡ true
  unfolding made choose
  made_delete_lem p b =
      let c : p < BOXES = omega (arith, s.list.most) in
      let w : (at l p).arrows < 2 ^ BOXES = omega (arith, s.list.within p b, power_small n BOXES s.list.most) in
      both_of (lt-ltb _ _ c) (both_of refl (both_of (both_of (lt-ltb _ _ w) (eq-eqb _ _ (s.list.other p b)))
      (both_of (lt-ltb _ _ (column_small l p)) (eq-eqb _ _ (column_bit l p p c ∙ s.list.other p b)))))

  delete_sound : (p : ℕ) → p < n → Sound (n - 1) (without_box l p) (push h (deletion l p))
  delete_sound p b = record {
    list = listed_without s.list p b;
    few = omega arith;
    entries = push_good h (deletion l p) room s.entries (made_delete_lem p b) (λ _. s.kept p b);
    kept = λ k t. rw (left_id s.list p b k t) (deleted_push h (deletion l p) room (at l (skip p k)).id (s.kept (skip p k) (skip_below p k n b t))
        (λ _ q. skip_apart p k (sym (s.list.apart p (skip p k) b (skip_below p k n b t) q))));
  }

-- how many boxes there are afterwards
pub after : {l : List BoxRecord} {h : History} {e : Entry} → ℕ → Gave l h e → ℕ
after n (adding i a b s) = n + 1
after n (deleting p s v) = n - 1
after n (drawing i j s t v w d z) = n
after n (erasing i j s t v w d o) = n

pub stays : {l : List BoxRecord} {h : History} {e : Entry} → Sound (boxes l) l h → h.count < EDITS → (g : Gave l h e) → Sound (after (boxes l) g) (done e l) (push h e)
unfolding done choose after
stays s r (adding i a b c) = add_sound s r i a b c
stays s r (deleting p b v) = delete_sound s r p (listed_live s.list p v)
stays {l} s r (drawing i j b d v w ne z) =
    let bi : i < boxes l = listed_live s.list i v in
    let bj : j < boxes l = listed_live s.list j w in
    arrows_sound s r i ((at l i).arrows + 2 ^ j) (arrow DRAW i j) bi (draw_small j (boxes l) (at l i).arrows bj (s.list.within i bi) z)
    (bit_draw j i (at l i).arrows ne z ∙ s.list.other i bi) (λ q. omega arith) (made_draw i j b d ne)
stays {l} s r (erasing i j b d v w ne o) =
    let bi : i < boxes l = listed_live s.list i v in
    arrows_sound s r i ((at l i).arrows - 2 ^ j) (arrow ERASE i j) bi (omega (arith, s.list.within i bi))
    (bit_erase j i (at l i).arrows ne o ∙ s.list.other i bi) (λ q. omega arith) (made_erase i j b d ne)
