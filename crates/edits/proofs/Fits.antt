-- The closed form of undo's refusal: an entry fits a list exactly where some list, allowed beside the rest of the history, gives it by that entry.
-- Assumes nothing.
use mathlib.Core.Path.{◌≡◌, refl, sym, ap, ◌∙◌, subst}
use mathlib.Core.Bool.{true, false}
use mathlib.Core.List.{List}
use Prim.Native.Nat.{ℕ, ◌+◌, ◌-◌, ◌<◌, ◌≤◌, ◌^◌}
use native.Mathlib.Omega.{arith}
use lib.ListN.{length, set}
use lib.Seq.{set-set, set-get_or}
use lib.Dec.{ltb, eqb}
use borrow.Author.Tests.{ltb-true, ltb-false, lt-ltb, le-ltb, leb-true, le-leb, eqb-true, eqb-false, eq-eqb, ne_eqb, not-true}
use Rattle.laws.specs.Choice.{choose}
use Rattle.laws.specs.Bits.{bit}
use Rattle.laws.proofs.Tests.{by_test, not_both, both_true, both_of, brings_at}
use Rattle.laws.proofs.Bits.{bit_none, bit_high, bit_drawn, bit_erased, bit_part, bit_draw, bit_erase, draw_small}
use Rattle.model.specs.Limits.{BOXES, EDITS}
use Rattle.edits.specs.Records.{blank, at, boxes, place}
use Rattle.edits.specs.History.{History, ADD, DELETE, DRAW, ERASE, newest, rest, deleted}
use Rattle.edits.specs.Allowed.{made_arrow, made, good_entry, allowed}
use Rattle.edits.specs.Moved.{with_arrows, column_of, without_box, with_box}
use Rattle.edits.specs.Plan.{Plan, added, deletion, arrow, plan_arrow, plan_change, plan}
use Rattle.edits.specs.Done.{new_box, done, undone}
use Rattle.edits.specs.Fits.{fits_add, fits_delete, fits_arrow, fits}
use Rattle.edits.specs.Gives.{Gives}
use Rattle.edits.specs.declared.BoxRecord.{BoxRecord}
use Rattle.edits.specs.declared.Entry.{Entry}
use Rattle.edits.specs.declared.Change.{Change}
use Rattle.edits.specs.declared.Change.TheVariants.{Add, Delete, Draw, Erase}
use Rattle.std.specs.Prelude.{Ok}
use Rattle.edits.proofs.Past.{deleted_fewer, deleted_at}
use Rattle.edits.proofs.Fine.{Listed, Sound, sound, sound_allowed, listed_boxes, listed_live, listed_place, listed_none}
use Rattle.edits.proofs.Moved.{column_bit}
use Rattle.edits.proofs.Gave.{Gave, adding, deleting, drawing, erasing, plan_gave, add_boxes, back}
use Rattle.edits.proofs.Listed.{by_place, column_none, column_within, at_same, at_other, changed_here, changed_id, listed_arrows, listed_without}
use Rattle.edits.proofs.Restored.{unskip_below, listed_last, put_here, put_id, listed_with, column_with, without_with}

-- ---- what was done fits
module _ {n : ℕ} {l : List BoxRecord} (s : Listed n l) where
  add_alone : (i k : ℕ) → n < BOXES → bit n (at (set l n (new_box i)) k).arrows ≡ 0
  add_alone i k b = by_place n k (λ (m : ℕ). bit n (at (set l n (new_box i)) m).arrows ≡ 0)
      (rw (at_same s n (new_box i) b) (bit_none n))
      (λ ne. rw (at_other s n k (new_box i) ne) (arrows_small k))
    where
      arrows_small : (k : ℕ) → bit n (at l k).arrows ≡ 0
      arrows_small k = by_test (ltb k n)
          (λ t. bit_high n n (at l k).arrows (s.within k (ltb-true _ _ t)) (omega arith))
          (λ t. ap (λ (box : BoxRecord). bit n box.arrows) (s.rest k (ltb-false _ _ t)) ∙ bit_none n)

  add_fits : (i : ℕ) → n < BOXES → boxes (set l n (new_box i)) ≡ n + 1 → fits_add (added i) (set l n (new_box i)) ≡ true
  add_fits i b e =
      let last : boxes (set l n (new_box i)) - 1 ≡ n = omega arith in
      both_of (rw e (lt-ltb 0 (n + 1) (omega arith)))
      (rw (last, at_same s n (new_box i) b) (both_of (eq-eqb i i refl) (both_of refl (eq-eqb _ _ (column_none (set l n (new_box i)) n (λ k. add_alone i k b))))))

  delete_fits : (p : ℕ) → p < n → fits_delete (deletion l p) (without_box l p) ≡ true
  delete_fits p b =
      let e : boxes (without_box l p) ≡ n - 1 = listed_boxes (listed_without s p b) in
      let up : boxes (without_box l p) + 1 ≡ n = omega arith in
      both_of (lt-ltb (boxes (without_box l p)) BOXES (omega (arith, s.most))) (both_of (le-leb p (boxes (without_box l p)) (omega arith))
      (rw up (both_of (lt-ltb _ _ (s.within p b)) (lt-ltb _ _ (column_within s p)))))

  arrow_fits : (kind i j x b : ℕ) → i < n → j < n → x < 2 ^ n → bit i x ≡ 0 → bit j x ≡ b → fits_arrow (arrow kind i j) (set l i (with_arrows (at l i) x)) b ≡ true
  arrow_fits kind i j x b bi bj w z e =
      let f : boxes (set l i (with_arrows (at l i) x)) ≡ n = listed_boxes (listed_arrows s i x bi w z) in
      both_of (rw f (lt-ltb i n bi)) (both_of (rw f (lt-ltb j n bj)) (rw (changed_here s i x bi) (eq-eqb _ _ e)))

pub fits_done : {l : List BoxRecord} {h : History} {e : Entry} → Listed (boxes l) l → Gave l h e → fits e (done e l) ≡ true
unfolding fits done choose
fits_done {l} s (adding i a b c) = add_fits s i c (add_boxes s (new_box i) c refl)
fits_done s (deleting p b v) = delete_fits s p (listed_live s p v)
fits_done {l} s (drawing i j b d v w ne z) =
    let bi : i < boxes l = listed_live s i v in
    let bj : j < boxes l = listed_live s j w in
    arrow_fits s DRAW i j ((at l i).arrows + 2 ^ j) 1 bi bj (draw_small j (boxes l) (at l i).arrows bj (s.within i bi) z)
    (bit_draw j i (at l i).arrows ne z ∙ s.other i bi) (bit_drawn j (at l i).arrows z)
fits_done {l} s (erasing i j b d v w ne o) =
    let bi : i < boxes l = listed_live s i v in
    arrow_fits s ERASE i j ((at l i).arrows - 2 ^ j) 0 bi (listed_live s j w) (omega (arith, s.within i bi))
    (bit_erase j i (at l i).arrows ne o ∙ s.other i bi) (bit_erased j (at l i).arrows o)

-- ---- an entry as its kind makes it
added_is : (e : Entry) → e.kind ≡ ADD → made e ≡ true → e ≡ added e.id
unfolding made choose
added_is e k m =
    let f = both_true _ _ (rw k at m) in
    let g = both_true _ _ f.1 in
    let i = both_true _ _ g.1 in
    rw (k, eqb-true e.at 0 f.0, eqb-true e.to 0 g.0, eqb-true e.out 0 i.0, eqb-true e.into 0 i.1)

new_is : (box : BoxRecord) (i : ℕ) → box.id ≡ i → box.live ≡ 1 → box.arrows ≡ 0 → box ≡ new_box i
new_is box i p q z = rw (p, q, z)

record Deletes (e : Entry) : Type 0 where
  to : e.to ≡ 0
  at : e.at < BOXES
  out : bit e.at e.out ≡ 0
  into : bit e.at e.into ≡ 0

deletes : (e : Entry) → e.kind ≡ DELETE → made e ≡ true → Deletes e
unfolding made choose
deletes e k m =
    let f = both_true _ _ (rw k at m) in
    let g = both_true _ _ f.1 in
    let i = both_true _ _ g.1 in
    record { to = eqb-true _ _ g.0; at = ltb-true _ _ f.0; out = eqb-true _ _ (both_true _ _ i.0).1; into = eqb-true _ _ (both_true _ _ i.1).1 }

record Draws (e : Entry) : Type 0 where
  is : e ≡ arrow e.kind e.at e.to
  apart : e.at ≡ e.to → ⊥

arrow_is : (e : Entry) → made_arrow e ≡ true → Draws e
arrow_is e m =
    let f = both_true _ _ m in
    let g = both_true _ _ f.1 in
    let i = both_true _ _ g.1 in
    let j = both_true _ _ i.1 in
    let k = both_true _ _ j.1 in
    record { is = rw (eqb-true e.id 0 j.0, eqb-true e.out 0 k.0, eqb-true e.into 0 k.1); apart = eqb-false _ _ (not-true _ i.0) }

-- ---- what fits was done: the list before it is allowed beside the rest of the history
module _ (l : List BoxRecord) (h : History) (begun : h.count ≡ 0 → ⊥) where
  abbrev e : Entry
  e = newest h

  rest_sound : {n k : ℕ} {m : List BoxRecord} → Sound n l h → Listed k m → ((j : ℕ) → j < k → deleted (rest h) (at m j).id ≡ false) → allowed m (rest h) ≡ true
  rest_sound s i d = sound_allowed (record { list = i; few = omega (arith, s.few); entries = λ j t. s.entries j (omega arith); kept = d })

  module _ {n : ℕ} (s : Sound n l h) where
    good : good_entry h.words (h.count - 1) ≡ true
    good = s.entries (h.count - 1) (omega arith)

    made_newest : made e ≡ true
    unfolding good_entry
    made_newest = (both_true _ _ good).0

    fresh_id : e.kind ≤ DELETE → deleted (rest h) e.id ≡ false
    unfolding good_entry
    fresh_id b = not-true _ (brings_at _ _ (both_true _ _ good).1 (le-leb _ _ b))

    kept_rest : (k : ℕ) → k < n → deleted (rest h) (at l k).id ≡ false
    kept_rest k t = deleted_fewer h.words (h.count - 1) h.count (at l k).id (omega arith) (s.kept k t)

    plan_is : (m : List BoxRecord) (q : Change) (p : Plan) → plan_change m (rest h) q ≡ p → plan m (rest h) q ≡ p
    unfolding plan choose
    plan_is m q p d = rw (ne_eqb (h.count - 1) EDITS (λ f. omega (arith, s.few))) d

    -- ---- drawn or erased
    plan_arrow_lem : (m : List BoxRecord) (kind b i j : ℕ) → Listed n m → i < n → j < n → (i ≡ j → ⊥) → bit j (at m i).arrows ≡ b
        → plan_arrow m kind b (place m (at m i).id) (place m (at m j).id) ≡ Ok (arrow kind i j)
    unfolding choose
    plan_arrow_lem m kind b i j d bi bj ne z =
        rw (listed_place d i bi, listed_place d j bj, ne_eqb i BOXES (λ f. omega (arith, d.most)), ne_eqb j BOXES (λ f. omega (arith, d.most)), ne_eqb i j ne, eq-eqb (bit j (at m i).arrows) b z)

    module _ (i j x : ℕ) (bi : i < n) (bj : j < n) (ne : i ≡ j → ⊥) (w : x < 2 ^ n) (z : bit i x ≡ 0) where
      abbrev was : List BoxRecord
      was = set l i (with_arrows (at l i) x)

      listed_was : Listed n was
      listed_was = listed_arrows s.list i x bi w z

      allowed_was : allowed was (rest h) ≡ true
      allowed_was = rest_sound s listed_was (λ k t. rw (changed_id s.list i x bi k) (kept_rest k t))

      set_again : (y : ℕ) → y ≡ (at l i).arrows → set was i (with_arrows (at was i) y) ≡ l
      set_again y q = rw (changed_here s.list i x bi, q) (set-set l i (with_arrows (at l i) x) (at l i) ∙ set-get_or l i blank)

      draw_gives : bit j x ≡ 0 → x + 2 ^ j ≡ (at l i).arrows → e ≡ arrow DRAW i j → Gives was (rest h) e l
      unfolding done choose
      draw_gives b y q = record {
        long = listed_was.long;
        good = allowed_was;
        change = Draw (at was i).id (at was j).id;
        plans = rw q (plan_is was (Draw (at was i).id (at was j).id) _ (plan_arrow_lem was DRAW 0 i j listed_was bi bj ne (rw (changed_here s.list i x bi) b)));
        gives = rw q (set_again ((at was i).arrows + 2 ^ j) (rw (changed_here s.list i x bi) y));
      }

      erase_gives : bit j x ≡ 1 → x - 2 ^ j ≡ (at l i).arrows → e ≡ arrow ERASE i j → Gives was (rest h) e l
      unfolding done choose
      erase_gives b y q = record {
        long = listed_was.long;
        good = allowed_was;
        change = Erase (at was i).id (at was j).id;
        plans = rw q (plan_is was (Erase (at was i).id (at was j).id) _ (plan_arrow_lem was ERASE 1 i j listed_was bi bj ne (rw (changed_here s.list i x bi) b)));
        gives = rw q (set_again ((at was i).arrows - 2 ^ j) (rw (changed_here s.list i x bi) y));
      }

    -- ---- deleted
    module _ (room : n < BOXES) (here : e.at ≤ n) (k : e.kind ≡ DELETE) (out : e.out < 2 ^ (n + 1)) (into : e.into < 2 ^ (n + 1)) where
      abbrev box : BoxRecord
      box = with_arrows (new_box e.id) e.out

      d : Deletes e
      d = deletes e k made_newest

      abbrev full : List BoxRecord
      full = with_box l e.at box e.into

      gone : deleted h e.id ≡ true
      gone = deleted_at h.words h.count (h.count - 1) (omega arith) k

      listed_full : Listed (n + 1) full
      listed_full = listed_with s.list e.at e.into box room here refl out into d.out d.into (λ j t q. not_both (rw (← q) at gone) (s.kept j t))

      at_full : at full e.at ≡ box
      at_full = put_here s.list e.at e.into box room here refl out into d.out d.into

      allowed_full : allowed full (rest h) ≡ true
      allowed_full = rest_sound s listed_full (λ j t. by_place e.at j (λ (m : ℕ). deleted (rest h) (at full m).id ≡ false)
          (rw at_full (fresh_id (omega arith)))
          (λ ne. rw (put_id s.list e.at e.into box room here refl out into d.out d.into j t ne) (kept_rest _ (unskip_below e.at j n here t ne))))

      deletion_is : deletion full e.at ≡ e
      deletion_is = rw (at_full, column_with s.list e.at e.into box room here refl out into d.out d.into, k, d.to)

      full_place : place full e.id ≡ e.at
      full_place = ap (place full) (ap (λ (x : BoxRecord). x.id) (sym at_full)) ∙ listed_place listed_full e.at (omega arith)

      plan_delete_lem : plan_change full (rest h) (Delete e.id) ≡ Ok e
      unfolding choose
      plan_delete_lem = rw (full_place, ne_eqb e.at BOXES (λ f. omega (arith, d.at))) (ap Ok deletion_is)

      delete_gives : Gives full (rest h) e l
      unfolding done choose
      delete_gives = record {
        long = listed_full.long;
        good = allowed_full;
        change = Delete e.id;
        plans = plan_is full (Delete e.id) (Ok e) plan_delete_lem;
        gives = rw k (without_with s.list e.at e.into box room here refl out into d.out d.into);
      }

  -- ---- added
  module _ (n : ℕ) (s : Sound (n + 1) l h) (k : e.kind ≡ ADD) (id : (at l n).id ≡ e.id) (arrows : (at l n).arrows ≡ 0) (column : column_of l n ≡ 0) where
    abbrev short : List BoxRecord
    short = set l n blank

    listed_short : Listed n short
    listed_short = listed_last s.list (λ j t. sym (column_bit l n j (omega (arith, s.list.most))) ∙ rw column (bit_none j))

    at_short : (j : ℕ) → j < n → at short j ≡ at l j
    at_short j t = at_other s.list n j blank (λ q. omega arith)

    no_place : place short e.id ≡ BOXES
    no_place = listed_none listed_short e.id (λ j t q.
        let same : j ≡ n = s.list.apart j n (omega arith) (omega arith) (sym (ap (λ (x : BoxRecord). x.id) (at_short j t)) ∙ q ∙ sym id) in omega arith)

    plan_add : plan_change short (rest h) (Add e.id) ≡ Ok (added e.id)
    unfolding choose
    plan_add =
        rw (le-ltb (place short e.id) BOXES (omega (arith, no_place)), rw id at (kept_rest s n (omega arith)), listed_boxes listed_short, ne_eqb n BOXES (λ f. omega (arith, s.list.most)))

    last_is : new_box e.id ≡ at l n
    last_is = sym (new_is (at l n) e.id id (s.list.live n (omega arith)) arrows)

    add_gives : Gives short (rest h) e l
    unfolding done choose
    add_gives = record {
      long = listed_short.long;
      good = rest_sound s listed_short (λ j t. rw (at_short j t) (kept_rest s j (omega arith)));
      change = Add e.id;
      plans = plan_is s short (Add e.id) (Ok e) (plan_add ∙ ap Ok (sym (added_is e k (made_newest s))));
      gives = rw (k, listed_boxes listed_short, last_is) (set-set l n blank (at l n) ∙ set-get_or l n blank);
    }

made_arrow_lem : (e : Entry) → eqb e.kind ADD ≡ false → eqb e.kind DELETE ≡ false → made e ≡ true → made_arrow e ≡ true
unfolding made choose
made_arrow_lem e a d m = by_test (eqb e.kind DRAW) (λ k. rw (a, d, k) at m) (λ k.
    by_test (eqb e.kind ERASE) (λ q. rw (a, d, k, q) at m) (λ q. not_both (rw (a, d, k, q) at m) refl))

made_erases : (e : Entry) → eqb e.kind ADD ≡ false → eqb e.kind DELETE ≡ false → eqb e.kind DRAW ≡ false → made e ≡ true → e.kind ≡ ERASE
unfolding made choose
made_erases e a d k m = by_test (eqb e.kind ERASE) (λ q. eqb-true _ _ q) (λ q. not_both (rw (a, d, k, q) at m) refl)

-- an entry that fits was made of the list before it
pub fits_gives : (l : List BoxRecord) (h : History) → length l ≡ BOXES → allowed l h ≡ true → (h.count ≡ 0 → ⊥) → fits (newest h) l ≡ true → Gives (undone (newest h) l) (rest h) (newest h) l
unfolding fits undone choose
fits_gives l h long ok begun f =
    let s : Sound (boxes l) l h = sound l h long ok in
    let e : Entry = newest h in
    let m : made (newest h) ≡ true = made_newest l h begun s in
    by_test (eqb (newest h).kind ADD) (λ a. rw a (
    let t = both_true _ _ (rw a at f) in
    let u = both_true _ _ t.1 in
    let v = both_true _ _ u.1 in
    let some : 0 < boxes l = ltb-true _ _ t.0 in
    let up : boxes l ≡ boxes l - 1 + 1 = omega arith in
    add_gives l h begun (boxes l - 1) (subst (λ (k : ℕ). Sound k l h) up s) (eqb-true _ _ a) (eqb-true _ _ u.0) (eqb-true _ _ v.0) (eqb-true _ _ v.1)))
    (λ a. by_test (eqb (newest h).kind DELETE) (λ d. rw (a, d) (
    let t = both_true _ _ (rw (a, d) at f) in
    let u = both_true _ _ t.1 in
    let v = both_true _ _ u.1 in
    delete_gives l h begun s (ltb-true _ _ t.0) (leb-true _ _ u.0) (eqb-true _ _ d) (ltb-true _ _ v.0) (ltb-true _ _ v.1)))
    (λ d.
    let w = arrow_is (newest h) (made_arrow_lem (newest h) a d m) in
    by_test (eqb (newest h).kind DRAW) (λ k. rw (a, d, k) (
    let t = both_true _ _ (rw (a, d, k) at f) in
    let u = both_true _ _ t.1 in
    let bi : (newest h).at < boxes l = ltb-true _ _ t.0 in
    let b : bit (newest h).to (at l (newest h).at).arrows ≡ 1 = eqb-true _ _ u.1 in
    let part : 2 ^ (newest h).to ≤ (at l (newest h).at).arrows = bit_part (newest h).to (at l (newest h).at).arrows b in
    draw_gives l h begun s (newest h).at (newest h).to ((at l (newest h).at).arrows - 2 ^ (newest h).to) bi (ltb-true _ _ u.0) w.apart
    (omega (arith, s.list.within (newest h).at bi)) (bit_erase (newest h).to (newest h).at (at l (newest h).at).arrows w.apart b ∙ s.list.other (newest h).at bi)
    (bit_erased (newest h).to (at l (newest h).at).arrows b) (omega arith) (w.is ∙ rw (eqb-true (newest h).kind DRAW k))))
    (λ k. rw (a, d, k) (
    let t = both_true _ _ (rw (a, d, k) at f) in
    let u = both_true _ _ t.1 in
    let bi : (newest h).at < boxes l = ltb-true _ _ t.0 in
    let bj : (newest h).to < boxes l = ltb-true _ _ u.0 in
    let b : bit (newest h).to (at l (newest h).at).arrows ≡ 0 = eqb-true _ _ u.1 in
    erase_gives l h begun s (newest h).at (newest h).to ((at l (newest h).at).arrows + 2 ^ (newest h).to) bi bj w.apart
    (draw_small (newest h).to (boxes l) (at l (newest h).at).arrows bj (s.list.within (newest h).at bi) b)
    (bit_draw (newest h).to (newest h).at (at l (newest h).at).arrows w.apart b ∙ s.list.other (newest h).at bi)
    (bit_drawn (newest h).to (at l (newest h).at).arrows b) (omega arith) (w.is ∙ rw (made_erases (newest h) a d k m))))))

-- and an entry that was made of a list fits the one that it gives, which leads back to that list
pub gives_gave : {m l : List BoxRecord} {h : History} {e : Entry} → Gives m h e l → Gave m h e
gives_gave {m} {l} {h} {e} g =
    plan_gave m h g.change e g.plans

pub gives_fits : {m l : List BoxRecord} {h : History} {e : Entry} → Gives m h e l → fits e l ≡ true
gives_fits {m} {l} {h} {e} g = ap (fits e) (sym g.gives) ∙ fits_done (sound m h g.long g.good).list (gives_gave g)

pub gives_undone : {m l : List BoxRecord} {h : History} {e : Entry} → Gives m h e l → undone e l ≡ m
gives_undone {m} {l} {h} {e} g = ap (undone e) (sym g.gives) ∙ back m h e (sound m h g.long g.good).list (gives_gave g)
