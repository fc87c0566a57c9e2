-- A deleted box, put back where it stood with its arrows, is as it was; and so is the list when one that was put in is deleted.
-- Assumes nothing.
use mathlib.Core.Path.{◌≡◌, sym, ap, ◌∙◌}
use mathlib.Core.List.{List}
use mathlib.Core.Logic.{⊎_elim}
use Prim.Native.Nat.{ℕ, ◌+◌, ◌-◌, ◌<◌, ◌≤◌, ◌^◌}
use native.Mathlib.Nat.{eq-or-lt_of_le}
use native.Mathlib.Numerals.{add-one}
use native.Mathlib.Omega.{arith}
use lib.ListN.{length}
use lib.Dec.{ltb}
use borrow.Author.Tests.{ltb-true, ltb-false, lt-ltb, le-ltb, eq-eqb, ne_eqb}
use Rattle.laws.specs.Choice.{choose}
use Rattle.laws.specs.Bits.{bit, cut, put}
use Rattle.laws.proofs.Chosen.{chosen}
use Rattle.laws.proofs.Tables.{length_tabulate, tabulate_at, tabulated}
use Rattle.laws.proofs.Bits.{bit_below, put_cut, bit_gather, gather_small, bit_cut_below, bit_cut_above}
use Rattle.model.specs.Limits.{BOXES}
use Rattle.edits.specs.Records.{blank, at}
use Rattle.edits.specs.Moved.{with_arrows, skip, arrow_into, column_of, left_at, without_box, back_at, with_box}
use Rattle.edits.specs.declared.BoxRecord.{BoxRecord}
use Rattle.edits.proofs.Found.{below_or}

-- ---- positions
pub skip_before : (p k : ℕ) → k < p → skip p k ≡ k
unfolding choose
skip_before p k l = rw (lt-ltb k p l)

pub skip_behind : (p k : ℕ) → p ≤ k → skip p k ≡ k + 1
unfolding choose
skip_behind p k l = rw (le-ltb k p l)

pub skip_apart : (p k : ℕ) → skip p k ≡ p → ⊥
skip_apart p k = chosen (λ (m : ℕ). m ≡ p → ⊥) (ltb k p) k (k + 1)
    (λ e q. let t : k < p = ltb-true _ _ e in omega arith) (λ e q. let t : p ≤ k = ltb-false _ _ e in omega arith)

pub skip_below : (p k n : ℕ) → p < n → k < n - 1 → skip p k < n
skip_below p k n b t = chosen (λ (m : ℕ). m < n) (ltb k p) k (k + 1) (λ _. omega arith) (λ _. omega arith)

pub skip_one : (p j k : ℕ) → skip p j ≡ skip p k → j ≡ k
skip_one p j k = chosen (λ (m : ℕ). m ≡ skip p k → j ≡ k) (ltb j p) j (j + 1)
    (λ e. chosen (λ (m : ℕ). j ≡ m → j ≡ k) (ltb k p) k (k + 1) (λ d q. q) (λ d q. let t : j < p = ltb-true _ _ e in let u : p ≤ k = ltb-false _ _ d in omega arith))
    (λ e. chosen (λ (m : ℕ). j + 1 ≡ m → j ≡ k) (ltb k p) k (k + 1) (λ d q. let t : p ≤ j = ltb-false _ _ e in let u : k < p = ltb-true _ _ d in omega arith) (λ d q. omega arith))

pub bit_skip : (p k x : ℕ) → bit k (cut p x) ≡ bit (skip p k) x
bit_skip p k x = chosen (λ (m : ℕ). bit k (cut p x) ≡ bit m x) (ltb k p) k (k + 1)
    (λ e. bit_cut_below p k x (ltb-true _ _ e)) (λ e. bit_cut_above p k x (ltb-false _ _ e) ∙ rw (add-one k))

-- ---- by positions
pub left_is : (l : List BoxRecord) (p k : ℕ) → k < BOXES → at (without_box l p) k ≡ left_at l p k
unfolding without_box
left_is l p k b = tabulate_at BOXES (left_at l p) k blank b

pub left_long : (l : List BoxRecord) (p : ℕ) → length (without_box l p) ≡ BOXES
unfolding without_box
left_long l p = length_tabulate BOXES (left_at l p)

pub back_is : (l : List BoxRecord) (p : ℕ) (box : BoxRecord) (into k : ℕ) → k < BOXES → at (with_box l p box into) k ≡ back_at l p box into k
unfolding with_box
back_is l p box into k b = tabulate_at BOXES (back_at l p box into) k blank b

pub back_long : (l : List BoxRecord) (p : ℕ) (box : BoxRecord) (into : ℕ) → length (with_box l p box into) ≡ BOXES
unfolding with_box
back_long l p box into = length_tabulate BOXES (back_at l p box into)

pub column_bit : (l : List BoxRecord) (p k : ℕ) → k < BOXES → bit k (column_of l p) ≡ bit p (at l k).arrows
unfolding column_of
column_bit l p k b = bit_gather k BOXES 0 (arrow_into l p) (λ j. bit_below p (at l j).arrows) b ∙ ap (arrow_into l p) (omega arith)

pub column_small : (l : List BoxRecord) (p : ℕ) → column_of l p < 2 ^ BOXES
unfolding column_of
column_small l p = gather_small 0 BOXES (arrow_into l p) (λ j. bit_below p (at l j).arrows)

-- ---- back to the list before
-- the box now at m, with its arrow to p put back, is the one that stood at j
put_back : (l : List BoxRecord) (p m j : ℕ) → m < BOXES → j < BOXES → skip p m ≡ j
    → with_arrows (at (without_box l p) m) (put p (bit j (column_of l p)) (at (without_box l p) m).arrows) ≡ at l j
put_back l p m j s t e = rw (left_is l p m s, column_bit l p j t, e) (rw (put_cut p (at l j).arrows))

restored : (l : List BoxRecord) (p k : ℕ) → k < BOXES → back_at (without_box l p) p (at l p) (column_of l p) k ≡ at l k
unfolding choose
restored l p k b =
    ⊎_elim
    (λ (lt : k < p). rw (ne_eqb k p (omega arith), lt-ltb k p lt) (put_back l p k k b b (skip_before p k lt)))
    (λ (le : p ≤ k). ⊎_elim
    (λ (e : p ≡ k). rw (eq-eqb k p (sym e)) (ap (at l) e))
    (λ (gt : p < k). rw (ne_eqb k p (omega arith), le-ltb k p (omega arith)) (put_back l p (k - 1) k (omega arith) b (skip_behind p (k - 1) (omega arith) ∙ omega arith)))
    (eq-or-lt_of_le le))
    (below_or k p)

pub with_without : (l : List BoxRecord) (p : ℕ) → length l ≡ BOXES → with_box (without_box l p) p (at l p) (column_of l p) ≡ l
unfolding with_box
with_without l p e = sym (tabulated blank BOXES (back_at (without_box l p) p (at l p) (column_of l p)) l e (λ k b. sym (restored l p k b)))
