-- Lists before an edit: without the last box, or with a box put in at p.
-- Assumes nothing.
use mathlib.Core.Path.{◌≡◌, refl, sym, ap, ◌∙◌}
use mathlib.Core.List.{List}
use mathlib.Core.Logic.{⊎_elim}
use Prim.Native.Nat.{ℕ, suc, ◌+◌, ◌-◌, ◌<◌, ◌≤◌, ◌^◌}
use native.Mathlib.Numerals.{add-one}
use native.Mathlib.Omega.{arith}
use lib.ListN.{set, length-set, get_or-eq_default}
use lib.Dec.{ltb}
use borrow.Author.Tests.{ltb-true, ltb-false, lt-ltb, le-ltb, eq-eqb, ne_eqb}
use Rattle.laws.specs.Choice.{choose}
use Rattle.laws.specs.Bits.{bit, put}
use Rattle.laws.proofs.Chosen.{chosen}
use Rattle.laws.proofs.Tables.{tabulated}
use Rattle.laws.proofs.Bits.{bit_below, bit_high, power_small, small_without, cut_none, put_none, put_small, bit_put, bit_put_below, bit_put_above, cut_put, gather_same, gather_bits}
use Rattle.model.specs.Limits.{BOXES}
use Rattle.edits.specs.Records.{blank, at}
use Rattle.edits.specs.Moved.{with_arrows, skip, unskip, arrow_into, column_of, left_at, without_box, with_box}
use Rattle.edits.specs.declared.BoxRecord.{BoxRecord}
use Rattle.edits.proofs.Found.{below_or}
use Rattle.edits.proofs.Fine.{Listed}
use Rattle.edits.proofs.Moved.{skip_apart, back_is, back_long}
use Rattle.edits.proofs.Listed.{by_place, at_same, at_other}

-- ---- without the last box, which no arrow touches
module _ {n : ℕ} {l : List BoxRecord} (s : Listed (n + 1) l) where
  last_other : (k : ℕ) → k < n → at (set l n blank) k ≡ at l k
  last_other k t = at_other s n k blank (λ q. omega arith)

  pub listed_last : ((k : ℕ) → k < n → bit n (at l k).arrows ≡ 0) → Listed n (set l n blank)
  listed_last z = record {
    long = length-set l n blank ∙ s.long;
    most = omega (arith, s.most);
    live = λ k t. rw (last_other k t) (s.live k (omega arith));
    rest = λ k t. by_place n k (λ (m : ℕ). at (set l n blank) m ≡ blank) (at_same s n blank (omega (arith, s.most))) (λ ne. at_other s n k blank ne ∙ s.rest k (omega arith));
    within = λ k t. rw (last_other k t) (small_without n (at l k).arrows (rw (← add-one n) (s.within k (omega arith))) (z k t));
    other = λ k t. rw (last_other k t) (s.other k (omega arith));
    apart = λ j k tj tk q. s.apart j k (omega arith) (omega arith) (rw (last_other j tj, last_other k tk) at q);
  }

-- ---- positions, the other way
pub unskip_below : (p k n : ℕ) → p ≤ n → k < n + 1 → (k ≡ p → ⊥) → unskip p k < n
unskip_below p k n b t ne = chosen (λ (m : ℕ). m < n) (ltb k p) k (k - 1)
    (λ e. let l : k < p = ltb-true _ _ e in omega arith) (λ e. let l : p ≤ k = ltb-false _ _ e in omega arith)

unskip_skip : (p k : ℕ) → unskip p (skip p k) ≡ k
unfolding choose
unskip_skip p k = ⊎_elim
    (λ (l : k < p). rw (lt-ltb k p l) (rw (lt-ltb k p l)))
    (λ (l : p ≤ k). rw (le-ltb k p l) (rw (le-ltb (k + 1) p (omega arith)) (omega arith)))
    (below_or k p)

pub skip_unskip : (p k : ℕ) → (k ≡ p → ⊥) → skip p (unskip p k) ≡ k
unfolding choose
skip_unskip p k ne = ⊎_elim
    (λ (l : k < p). rw (lt-ltb k p l) (rw (lt-ltb k p l)))
    (λ (l : p ≤ k). rw (le-ltb k p l) (rw (le-ltb (k - 1) p (omega arith)) (omega arith)))
    (below_or k p)

unskip_one : (p j k : ℕ) → (j ≡ p → ⊥) → (k ≡ p → ⊥) → unskip p j ≡ unskip p k → j ≡ k
unskip_one p j k nj nk q = sym (skip_unskip p j nj) ∙ ap (skip p) q ∙ skip_unskip p k nk

bit_unskip : (p k b x : ℕ) → b < 2 → (k ≡ p → ⊥) → bit k (put p b x) ≡ bit (unskip p k) x
bit_unskip p k b x s ne = chosen (λ (m : ℕ). bit k (put p b x) ≡ bit m x) (ltb k p) k (k - 1)
    (λ e. bit_put_below p k b x s (ltb-true _ _ e))
    (λ e. let l : p ≤ k = ltb-false _ _ e in let m : k ≡ suc (k - 1) = omega arith in ap (λ (j : ℕ). bit j (put p b x)) m ∙ bit_put_above p (k - 1) b x s (omega arith))

-- ---- with a box put in
module _ {n : ℕ} {l : List BoxRecord} (s : Listed n l) (p into : ℕ) (box : BoxRecord) (room : n < BOXES) (b : p ≤ n) (lives : box.live ≡ 1)
    (out_small : box.arrows < 2 ^ (n + 1)) (into_small : into < 2 ^ (n + 1)) (out_other : bit p box.arrows ≡ 0) (into_other : bit p into ≡ 0) where
  abbrev m : List BoxRecord
  m = with_box l p box into

  pub put_here : at m p ≡ box
  unfolding choose
  put_here = back_is l p box into p (omega arith) ∙ rw (eq-eqb p p refl)

  put_other : (k : ℕ) → k < BOXES → (k ≡ p → ⊥) → at m k ≡ with_arrows (at l (unskip p k)) (put p (bit k into) (at l (unskip p k)).arrows)
  unfolding choose
  put_other k t ne = back_is l p box into k t ∙ rw (ne_eqb k p ne)

  pub put_id : (k : ℕ) → k < n + 1 → (k ≡ p → ⊥) → (at m k).id ≡ (at l (unskip p k)).id
  put_id k t ne = ap (λ (x : BoxRecord). x.id) (put_other k (omega arith) ne)

  behind : (k : ℕ) → n + 1 ≤ k → unskip p k ≡ k - 1
  unfolding choose
  behind k t = rw (le-ltb k p (omega arith))

  put_rest : (k : ℕ) → n + 1 ≤ k → k < BOXES → at m k ≡ blank
  put_rest k t c =
      put_other k c (λ q. omega arith)
      ∙ rw (behind k t, s.rest (k - 1) (omega arith), bit_high (n + 1) k into into_small t, put_none p)

  pub listed_with : ((k : ℕ) → k < n → (at l k).id ≡ box.id → ⊥) → Listed (n + 1) m
  listed_with new = record {
    long = back_long l p box into;
    most = omega arith;
    live = λ k t. by_place p k (λ (j : ℕ). (at m j).live ≡ 1) (rw put_here lives) (λ ne. rw (put_other k (omega arith) ne) (s.live (unskip p k) (unskip_below p k n b t ne)));
    rest = λ k t. ⊎_elim (λ (c : k < BOXES). put_rest k t c) (λ (c : BOXES ≤ k). get_or-eq_default m blank (omega (arith, back_long l p box into))) (below_or k BOXES);
    within = λ k t. by_place p k (λ (j : ℕ). (at m j).arrows < 2 ^ (n + 1)) (rw put_here out_small)
        (λ ne. rw (put_other k (omega arith) ne, add-one n) (put_small p n (bit k into) (at l (unskip p k)).arrows b (bit_below k into) (s.within (unskip p k) (unskip_below p k n b t ne))));
    other = λ k t. by_place p k (λ (j : ℕ). bit j (at m j).arrows ≡ 0) (rw put_here out_other)
        (λ ne. rw (put_other k (omega arith) ne) (bit_unskip p k (bit k into) (at l (unskip p k)).arrows (bit_below k into) ne ∙ s.other (unskip p k) (unskip_below p k n b t ne)));
    apart = λ j k tj tk. by_place p j (λ (i : ℕ). (at m i).id ≡ (at m k).id → i ≡ k)
        (by_place p k (λ (i : ℕ). (at m p).id ≡ (at m i).id → p ≡ i) (λ _. refl)
        (λ ne q. absurd (new (unskip p k) (unskip_below p k n b tk ne) (sym (put_id k tk ne) ∙ sym q ∙ ap (λ (x : BoxRecord). x.id) put_here))))
        (λ nj. by_place p k (λ (i : ℕ). (at m j).id ≡ (at m i).id → j ≡ i)
        (λ q. absurd (new (unskip p j) (unskip_below p j n b tj nj) (sym (put_id j tj nj) ∙ q ∙ ap (λ (x : BoxRecord). x.id) put_here)))
        (λ nk q. unskip_one p j k nj nk (s.apart (unskip p j) (unskip p k) (unskip_below p j n b tj nj) (unskip_below p k n b tk nk) (sym (put_id j tj nj) ∙ q ∙ put_id k tk nk))));
  }

  -- the arrows into it
  pub column_with : column_of m p ≡ into
  unfolding column_of
  column_with =
      gather_same 0 BOXES (arrow_into m p) (λ k. bit k into) (λ k _ t. by_place p k (λ (j : ℕ). j < BOXES → bit p (at m j).arrows ≡ bit j into)
      (λ _. rw put_here (out_other ∙ sym into_other))
      (λ ne c. rw (put_other k c ne) (bit_put p (bit k into) (at l (unskip p k)).arrows (bit_below k into))) (omega arith))
      ∙ gather_bits BOXES into (omega (arith, power_small (n + 1) BOXES (omega arith)))

  left_back : (k : ℕ) → k < BOXES → left_at m p k ≡ at l k
  left_back k t = ⊎_elim
      (λ (c : skip p k < BOXES).
      rw (put_other (skip p k) c (skip_apart p k), unskip_skip p k, cut_put p (bit (skip p k) into) (at l k).arrows (bit_below (skip p k) into)))
      (λ (c : BOXES ≤ skip p k).
      let far : n ≤ k = chosen (λ (j : ℕ). BOXES ≤ j → n ≤ k) (ltb k p) k (k + 1) (λ _ d. omega arith) (λ _ d. omega arith) c in
      rw (get_or-eq_default m blank {n = skip p k} (omega (arith, back_long l p box into)), cut_none p) (sym (s.rest k far)))
      (below_or (skip p k) BOXES)

  -- deleted again
  pub without_with : without_box m p ≡ l
  unfolding without_box
  without_with = sym (tabulated blank BOXES (left_at m p) l s.long (λ k t. sym (left_back k t)))
