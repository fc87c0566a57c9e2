-- Lists of boxes stay such: one box more at the end, other arrows, one box less, a box put in.
-- Assumes nothing.
use mathlib.Core.Path.{◌≡◌, refl, sym, ap, ◌∙◌, subst}
use mathlib.Core.List.{List}
use mathlib.Core.Logic.{⊎_elim, ◌⊎◌}
use Prim.Native.Nat.{ℕ, suc, ◌+◌, ◌-◌, ◌<◌, ◌≤◌, ◌^◌}
use native.Mathlib.Nat.{eq-or-lt_of_le}
use native.Mathlib.Omega.{arith}
use lib.ListN.{length, set, length-set, get_or-eq_default}
use lib.Seq.{get_or-set_same, get_or-set_other}
use lib.Dec.{eqb}
use borrow.Author.Tests.{eqb-true, eqb-false}
use Rattle.laws.specs.Bits.{bit, gather}
use Rattle.laws.proofs.Tests.{by_test}
use Rattle.laws.proofs.Bits.{bit_below, bit_none, power_pos, power_small, cut_none, cut_small, gather_below}
use Rattle.model.specs.Limits.{BOXES}
use Rattle.edits.specs.Records.{blank, at}
use Rattle.edits.specs.Moved.{with_arrows, skip, arrow_into, column_of, left_at, without_box}
use Rattle.edits.specs.Done.{new_box}
use Rattle.edits.specs.declared.BoxRecord.{BoxRecord}
use Rattle.edits.proofs.Found.{below_or}
use Rattle.edits.proofs.Fine.{Listed}
use Rattle.edits.proofs.Moved.{skip_behind, skip_below, skip_one, bit_skip, left_is, left_long}

-- a fact at k, by whether k is i
pub by_place : (i k : ℕ) (P : ℕ → Type 0) → P i → ((k ≡ i → ⊥) → P k) → P k
by_place i k P a b = by_test (eqb k i) (λ e. subst P (sym (eqb-true k i e)) a) (λ e. b (eqb-false k i e))

split : (n k : ℕ) → k < n + 1 → (k ≡ n) ⊎ (k < n)
split n k s = let t : k ≤ n = omega arith in eq-or-lt_of_le t

-- ---- arrows into a box
-- none, where no arrow has its bit
pub column_none : (l : List BoxRecord) (p : ℕ) → ((k : ℕ) → bit p (at l k).arrows ≡ 0) → column_of l p ≡ 0
unfolding column_of
column_none l p z = let h : gather 0 BOXES (arrow_into l p) < 2 ^ 0 = gather_below 0 0 BOXES (arrow_into l p) (λ j. bit_below p (at l j).arrows) (λ j _. z j) in omega arith

pub column_within : {n : ℕ} {l : List BoxRecord} → Listed n l → (p : ℕ) → column_of l p < 2 ^ n
unfolding column_of
column_within {n} {l} s p =
    gather_below n 0 BOXES (arrow_into l p) (λ j. bit_below p (at l j).arrows)
    (λ j b. ap (λ (box : BoxRecord). bit p box.arrows) (s.rest j (omega arith)) ∙ bit_none p)

module _ {n : ℕ} {l : List BoxRecord} (s : Listed n l) where
  pub at_same : (i : ℕ) (box : BoxRecord) → i < BOXES → at (set l i box) i ≡ box
  at_same i box b = let c : i < length l = omega (arith, s.long) in get_or-set_same l i box blank c

  pub at_other : (i k : ℕ) (box : BoxRecord) → (k ≡ i → ⊥) → at (set l i box) k ≡ at l k
  at_other i k box ne = get_or-set_other l i k box blank ne

  -- ---- a new box behind the others
  pub listed_add : (i : ℕ) → n < BOXES → ((k : ℕ) → k < n → (at l k).id ≡ i → ⊥) → Listed (n + 1) (set l n (new_box i))
  listed_add i b new =
      let here : at (set l n (new_box i)) n ≡ new_box i = at_same n (new_box i) b in
      let old : (k : ℕ) → (k ≡ n → ⊥) → at (set l n (new_box i)) k ≡ at l k = (λ k ne. at_other n k (new_box i) ne) in
      record {
        long = length-set l n (new_box i) ∙ s.long;
        most = omega arith;
        live = λ k t. by_place n k (λ (m : ℕ). (at (set l n (new_box i)) m).live ≡ 1) (rw here refl) (λ ne. rw (old k ne) (s.live k (omega arith)));
        rest = λ k t. old k (λ q. omega arith) ∙ s.rest k (omega arith);
        within = λ k t. by_place n k (λ (m : ℕ). (at (set l n (new_box i)) m).arrows < 2 ^ (n + 1)) (rw here (power_pos (n + 1)))
            (λ ne. rw (old k ne) (omega (arith, s.within k (omega arith), power_small n (n + 1) (omega arith))));
        other = λ k t. by_place n k (λ (m : ℕ). bit m (at (set l n (new_box i)) m).arrows ≡ 0) (rw here (bit_none n)) (λ ne. rw (old k ne) (s.other k (omega arith)));
        apart = λ j k tj tk. by_place n j (λ (m : ℕ). (at (set l n (new_box i)) m).id ≡ (at (set l n (new_box i)) k).id → m ≡ k)
            (by_place n k (λ (m : ℕ). (at (set l n (new_box i)) n).id ≡ (at (set l n (new_box i)) m).id → n ≡ m) (λ _. refl)
            (λ ne q. absurd (new k (omega arith) (sym (rw (here, old k ne) at q)))))
            (λ nj. by_place n k (λ (m : ℕ). (at (set l n (new_box i)) j).id ≡ (at (set l n (new_box i)) m).id → j ≡ m)
            (λ q. absurd (new j (omega arith) (rw (here, old j nj) at q)))
            (λ nk q. s.apart j k (omega arith) (omega arith) (rw (old j nj, old k nk) at q)));
      }

  -- ---- other arrows from the box at i
  module _ (i x : ℕ) (b : i < n) where
    abbrev changed : List BoxRecord
    changed = set l i (with_arrows (at l i) x)

    pub changed_here : at changed i ≡ with_arrows (at l i) x
    changed_here = at_same i (with_arrows (at l i) x) (omega (arith, s.most))

    pub changed_id : (k : ℕ) → (at changed k).id ≡ (at l k).id
    changed_id k = by_place i k (λ (m : ℕ). (at changed m).id ≡ (at l m).id) (rw changed_here refl) (λ ne. rw (at_other i k (with_arrows (at l i) x) ne) refl)

    pub listed_arrows : x < 2 ^ n → bit i x ≡ 0 → Listed n changed
    listed_arrows w z =
        let old : (k : ℕ) → (k ≡ i → ⊥) → at changed k ≡ at l k = (λ k ne. at_other i k (with_arrows (at l i) x) ne) in
        record {
          long = length-set l i (with_arrows (at l i) x) ∙ s.long;
          most = s.most;
          live = λ k t. by_place i k (λ (m : ℕ). (at changed m).live ≡ 1) (rw changed_here (s.live i b)) (λ ne. rw (old k ne) (s.live k t));
          rest = λ k t. old k (λ q. omega arith) ∙ s.rest k t;
          within = λ k t. by_place i k (λ (m : ℕ). (at changed m).arrows < 2 ^ n) (rw changed_here w) (λ ne. rw (old k ne) (s.within k t));
          other = λ k t. by_place i k (λ (m : ℕ). bit m (at changed m).arrows ≡ 0) (rw changed_here z) (λ ne. rw (old k ne) (s.other k t));
          apart = λ j k tj tk q. s.apart j k tj tk (sym (changed_id j) ∙ q ∙ changed_id k);
        }

  -- ---- without the box at p
  module _ (p : ℕ) (b : p < n) where
    left_here : (k : ℕ) → k < n - 1 → at (without_box l p) k ≡ left_at l p k
    left_here k t = left_is l p k (omega (arith, s.most))

    pub left_id : (k : ℕ) → k < n - 1 → (at (without_box l p) k).id ≡ (at l (skip p k)).id
    left_id k t = ap (λ (box : BoxRecord). box.id) (left_here k t)

    less : suc (n - 1) ≡ n
    less = omega arith

    pub listed_without : Listed (n - 1) (without_box l p)
    listed_without = record {
      long = left_long l p;
      most = omega (arith, s.most);
      live = λ k t. rw (left_here k t) (s.live (skip p k) (skip_below p k n b t));
      rest = λ k t. ⊎_elim
          (λ (c : k < BOXES). left_is l p k c ∙ rw (skip_behind p k (omega arith), s.rest (k + 1) (omega arith), cut_none p))
          (λ (c : BOXES ≤ k). get_or-eq_default (without_box l p) blank (omega (arith, left_long l p)))
          (below_or k BOXES);
      within = λ k t. rw (left_here k t) (cut_small p (n - 1) (at l (skip p k)).arrows (omega arith) (rw less (s.within (skip p k) (skip_below p k n b t))));
      other = λ k t. rw (left_here k t) (bit_skip p k (at l (skip p k)).arrows ∙ s.other (skip p k) (skip_below p k n b t));
      apart = λ j k tj tk q. skip_one p j k (s.apart (skip p j) (skip p k) (skip_below p j n b tj) (skip_below p k n b tk) (sym (left_id j tj) ∙ q ∙ left_id k tk));
    }
