-- How many boxes stand, and where the one with an id does.
-- Assumes nothing.
use mathlib.Core.Path.{◌≡◌, refl, sym, ap, ◌∙◌}
use mathlib.Core.Bool.{false, not, cond}
use mathlib.Core.List.{List}
use mathlib.Core.Logic.{⊎_elim, ◌⊎◌, inl, inr}
use Prim.Native.Nat.{ℕ, ◌<◌, ◌≤◌}
use native.Mathlib.Nat.{eq-or-lt_of_le}
use native.Mathlib.Decide.{dec_lt}
use native.Mathlib.Omega.{arith}
use lib.Dec.{eqb, ltb}
use Rattle.std.specs.Prelude.{Some, None, unwrap_or}
use Rattle.laws.specs.Choice.{choose}
use Rattle.edits.specs.Private.{found}
use borrow.Author.Tests.{eqb-true, eqb-false, eq-eqb, ne_eqb, ltb-true, ltb-false, not-false}
use Rattle.laws.proofs.Tests.{by_test, both_true}
use Rattle.laws.proofs.Range.{first_at, first_none, first_le, first_holds}
use Rattle.laws.proofs.Firsts.{first_before}
use Rattle.laws.specs.Range.{first}
use Rattle.std.specs.List.{position_or_len}
use Rattle.edits.proofs.Chains.{first_position}
use lib.ListN.{length}
use Rattle.model.specs.Limits.{BOXES}
use Rattle.edits.specs.Records.{blank, at, lives, is_with, boxes, place}
use Rattle.edits.specs.declared.BoxRecord.{BoxRecord}

pub below_or : (a b : ℕ) → (a < b) ⊎ (b ≤ a)
below_or a b = go (dec_lt a b)
  where
    go : Dec (a < b) → (a < b) ⊎ (b ≤ a)
    go (yes l) = inl l
    go (no n) = inr (omega arith)

pub boxes_most : (l : List BoxRecord) → boxes l ≤ BOXES
unfolding boxes
boxes_most l = first_le BOXES (λ k. not (lives (at l k)))

pub lives_at : (l : List BoxRecord) (k : ℕ) → k < boxes l → (at l k).live ≡ 1
unfolding boxes
lives_at l k s = eqb-true _ _ (not-false _ (first_before BOXES (λ j. not (lives (at l j))) k s))

pub boxes_are : (n : ℕ) (l : List BoxRecord) → n ≤ BOXES → ((k : ℕ) → k < n → (at l k).live ≡ 1) → (n < BOXES → at l n ≡ blank) → boxes l ≡ n
unfolding boxes
boxes_are n l m v b =
    ⊎_elim
    (λ (e : n ≡ BOXES). first_none BOXES (λ k. not (lives (at l k))) (λ j t. ap not (eq-eqb _ _ (v j (omega arith)))) ∙ sym e)
    (λ (t : n < BOXES). first_at BOXES (λ k. not (lives (at l k))) n t (λ j u. ap not (eq-eqb _ _ (v j u))) (ap (λ (box : BoxRecord). not (lives box)) (b t)))
    (eq-or-lt_of_le m)

place_most : (l : List BoxRecord) (i : ℕ) → place l i ≤ BOXES
unfolding place
place_most l i = first_le BOXES (λ k. is_with (at l k) i)

pub place_live : (l : List BoxRecord) (i : ℕ) → place l i < BOXES → ((at l (place l i)).live ≡ 1) × ((at l (place l i)).id ≡ i)
unfolding place
place_live l i s =
    let e = both_true _ _ (first_holds BOXES (λ k. is_with (at l k) i) s) in
    (eqb-true _ _ e.0, eqb-true _ _ e.1)

pub known : (l : List BoxRecord) (i : ℕ) → eqb (place l i) BOXES ≡ false → place l i < BOXES
known l i e = let n : place l i ≡ BOXES → ⊥ = eqb-false _ _ e in omega (arith, place_most l i)

-- how many boxes there are, and where one stands, as an iterator finds them
boxes_found : (l : List BoxRecord) → length l ≡ BOXES → position_or_len (λ b. not (lives b)) l ≡ boxes l
unfolding boxes
boxes_found l long = sym (ap (λ (n : ℕ). first n (λ k. not (lives (at l k)))) (sym long) ∙ first_position (λ b. not (lives b)) l)

place_found : (l : List BoxRecord) (i : ℕ) → length l ≡ BOXES → position_or_len (λ b. is_with b i) l ≡ place l i
unfolding place
place_found l i long = sym (ap (λ (n : ℕ). first n (λ k. is_with (at l k) i)) (sym long) ∙ first_position (λ b. is_with b i) l)

pub boxes_option : (l : List BoxRecord) → length l ≡ BOXES
    → unwrap_or (cond (ltb (position_or_len (λ b. not (lives b)) l) (length l)) (Some (position_or_len (λ b. not (lives b)) l)) None) BOXES ≡ boxes l
boxes_option l long =
    rw (boxes_found l long, long) (by_test (ltb (boxes l) BOXES) (λ e. rw e refl) (λ e. rw e (omega (arith, boxes_most l, ltb-false (boxes l) BOXES e))))

pub place_option : (l : List BoxRecord) (i : ℕ) → length l ≡ BOXES
    → cond (ltb (position_or_len (λ b. is_with b i) l) (length l)) (Some (position_or_len (λ b. is_with b i) l)) None ≡ found (place l i)
unfolding choose
place_option l i long =
    rw (place_found l i long, long) (by_test (ltb (place l i) BOXES)
    (λ e. let s : place l i < BOXES = ltb-true _ _ e in rw (e, ne_eqb (place l i) BOXES (λ q. omega arith)) refl)
    (λ e. let s : BOXES ≤ place l i = ltb-false _ _ e in rw (e, eq-eqb (place l i) BOXES (omega (arith, place_most l i))) refl))
