-- How the list is written, pair by pair, and that there is room for every pair.
-- Assumes nothing.
use mathlib.Core.Path.{◌≡◌, refl, sym, ◌∙◌, ap, subst}
use mathlib.Core.Bool.{Bool, true, false}
use mathlib.Core.List.{List, [], ◌∷◌, ◌++◌, append_assoc, append-nil}
use Prim.Native.Nat.{ℕ, zero, suc, ◌+◌, ◌*◌, ◌-◌, ◌<◌, ◌≤◌}
use native.Mathlib.Nat.{suc-mul, not-suc-le-zero}
use native.Mathlib.Numerals.{add-one}
use native.Mathlib.Omega.{arith}
use borrow.Author.Tests.{eq-eqb}
use lib.ListN.{length, set, replicate, length-set, length-append, length-replicate}
use lib.Seq.{set_at}
use Rattle.laws.specs.Choice.{both, choose}
use Rattle.laws.proofs.Tests.{by_test, not_both}
use Rattle.laws.proofs.Range.{by_order}
use Rattle.noninterference.specs.Needed.{Arrow, arrow}
use Rattle.noninterference.specs.Rounds.{arrows_from, arrows_upto}
use Rattle.noninterference.proofs.Ascending.{upto_length}
use Rattle.model.specs.Limits.{LIST_ENTRIES, BOXES, PAIRS}
use Rattle.model.proofs.Limits.{pairs_most}
use Rattle.needs.specs.Marks.{wanted_in}
use Rattle.needs.specs.Listed.{flat, padded, Written}

-- ---- the list is cleared

-- ---- one pair more
pub flat_length : (l : List Arrow) → length (flat l) ≡ 2 * length l
unfolding flat
flat_length [] = refl
flat_length (x ∷ l) = let h : length (flat l) ≡ 2 * length l = flat_length l in omega arith

flat_more : (l : List Arrow) (v u : ℕ) → flat (l ++ (arrow v u ∷ [])) ≡ flat l ++ (v ∷ u ∷ [])
unfolding flat
flat_more [] v u = refl
flat_more (x ∷ l) v u = ap (λ t. x.source ∷ x.target ∷ t) (flat_more l v u)

length_more : (l : List Arrow) (v u : ℕ) → length (l ++ (arrow v u ∷ [])) ≡ length l + 1
length_more l v u = length-append l (arrow v u ∷ [])

written_more : {list list' : List ℕ} {l : List Arrow} {n : ℕ} (v u : ℕ) → Written list l n → n < PAIRS →
    list' ≡ set (set list (2 * n) v) (2 * n + 1) u → Written list' (l ++ (arrow v u ∷ [])) (n + 1)
unfolding padded
written_more {list} {list'} {l} {n} v u h room e = record {
  long = ap length e ∙ length-set (set list (2 * n) v) (2 * n + 1) u ∙ length-set list (2 * n) v ∙ h.long;
  is = e ∙ ap (λ x. set (set x (2 * n) v) (2 * n + 1) u) (h.is ∙ parts)
      ∙ ap (λ x. set x (2 * n + 1) u) (set_at (flat l) 0 (0 ∷ rest) v (2 * n) at_first ∙ sym (append_assoc (flat l) (v ∷ []) (0 ∷ rest)))
      ∙ set_at (flat l ++ (v ∷ [])) 0 rest u (2 * n + 1) at_second
      ∙ append_assoc (flat l) (v ∷ []) (u ∷ rest)
      ∙ sym (append_assoc (flat l) (v ∷ u ∷ []) rest)
      ∙ ap (λ x. x ++ rest) (sym (flat_more l v u))
      ∙ ap (λ k. flat (l ++ (arrow v u ∷ [])) ++ replicate k 0) more;
  count = ap (λ x. x + 1) h.count ∙ sym (length_more l v u);
}
  where
    k : ℕ
    k = LIST_ENTRIES - 2 * (n + 1)

    rest : List ℕ
    rest = replicate k 0

    two : LIST_ENTRIES - 2 * length l ≡ suc (suc k)
    two = omega (arith, h.count, room)

    parts : flat l ++ replicate (LIST_ENTRIES - 2 * length l) 0 ≡ flat l ++ (0 ∷ 0 ∷ rest)
    parts = ap (λ x. flat l ++ replicate x 0) two

    at_first : length (flat l) ≡ 2 * n
    at_first = flat_length l ∙ ap (λ x. 2 * x) (sym h.count)

    at_second : length (flat l ++ (v ∷ [])) ≡ 2 * n + 1
    at_second = length-append (flat l) (v ∷ []) ∙ ap (λ x. x + 1) at_first

    more : k ≡ LIST_ENTRIES - 2 * length (l ++ (arrow v u ∷ []))
    more = ap (λ x. LIST_ENTRIES - 2 * x) (ap (λ x. x + 1) h.count ∙ sym (length_more l v u))

pub written_none : {list : List ℕ} (test : ℕ → ℕ → Bool) (n : ℕ) → list ≡ replicate LIST_ENTRIES 0 → Written list (arrows_upto test n 0) 0
unfolding arrows_upto padded flat
written_none test n e = record { long = ap length e ∙ length-replicate {A = ℕ} LIST_ENTRIES 0; is = e; count = refl }

-- ---- one row
module _ (test : ℕ → ℕ → Bool) (n v : ℕ) {list : List ℕ} where
  pub row_none : {k : ℕ} → Written list (arrows_upto test n v) k → Written list (arrows_upto test n v ++ arrows_from test v 0) k
  unfolding arrows_from
  row_none {k} h = subst (λ l. Written list l k) (sym (append-nil (arrows_upto test n v))) h

  pub row_skip : {k u : ℕ} → test v u ≡ false → Written list (arrows_upto test n v ++ arrows_from test v u) k →
      Written list (arrows_upto test n v ++ arrows_from test v (u + 1)) k
  unfolding arrows_from choose
  row_skip e h = rw (add-one, e) h

  pub row_more : {list' : List ℕ} {k u : ℕ} → test v u ≡ true → k < PAIRS → Written list (arrows_upto test n v ++ arrows_from test v u) k →
      list' ≡ set (set list (2 * k) v) (2 * k + 1) u → Written list' (arrows_upto test n v ++ arrows_from test v (u + 1)) (k + 1)
  unfolding arrows_from choose
  row_more {list'} {k} {u} e room h w =
      rw (add-one u, e)
      (subst (λ l. Written list' l (k + 1)) (append_assoc (arrows_upto test n v) (arrows_from test v u) (arrow v u ∷ [])) (written_more v u h room w))

  pub row_all : {k u : ℕ} → Written list (arrows_upto test n v ++ arrows_from test v u) k → u ≡ n → Written list (arrows_upto test n (v + 1)) k
  unfolding arrows_upto
  row_all {k} h e = rw add-one (subst (λ x. Written list (arrows_upto test n v ++ arrows_from test v x) k) e h)

-- ---- room for every pair: no more than n - 1 from each box
wanted_self : (table : List Bool) (v : ℕ) → wanted_in table v v ≡ false
unfolding wanted_in both
wanted_self table v = rw (eq-eqb v v refl)

row_most : (test : ℕ → ℕ → Bool) (v : ℕ) → test v v ≡ false → (u : ℕ) →
    (length (arrows_from test v u) ≤ u) × (v < u → length (arrows_from test v u) < u)
unfolding arrows_from choose
row_most test v e zero = (omega arith, λ l. absurd (not-suc-le-zero l))
row_most test v e (suc u) =
    let h = row_most test v e u in
    let a : length (arrows_from test v u) ≤ u = h.0 in
    by_test (test v u)
    (λ t. rw t
    (let q : length (arrows_from test v u ++ (arrow v u ∷ [])) ≡ length (arrows_from test v u) + 1 = length_more (arrows_from test v u) v u in (
      omega arith,
      λ l. by_order v u (λ k. let b : length (arrows_from test v u) < u = h.1 k in omega arith) (λ k. absurd (omega arith))
          (λ k. not_both (subst (λ x. test v x ≡ true) (sym k) t) e),
    )))
    (λ t. rw t
    (omega arith, λ l. by_order v u (λ k. let b : length (arrows_from test v u) < u = h.1 k in omega arith) (λ k. absurd (omega arith)) (λ k. omega arith)))

pub wanted_room : {boxes v u k : ℕ} {list : List ℕ} (table : List Bool) → boxes ≤ BOXES → v < boxes → u < boxes → wanted_in table v u ≡ true →
    Written list (arrows_upto (wanted_in table) boxes v ++ arrows_from (wanted_in table) v u) k → k < PAIRS
wanted_room {boxes} {v} {u} {k} table most lv lu t h =
    let a : length (arrows_upto (wanted_in table) boxes v) ≤ v * (boxes - 1) =
    upto_length (wanted_in table) boxes (λ x l. wanted_self table x) v (omega arith) in
    let r = row_most (wanted_in table) v (wanted_self table v) u in
    let b : length (arrows_from (wanted_in table) v u) + 2 ≤ boxes =
    by_order v u (λ l. let x : length (arrows_from (wanted_in table) v u) < u = r.1 l in omega arith)
    (λ l. let x : length (arrows_from (wanted_in table) v u) ≤ u = r.0 in omega arith)
    (λ q. not_both (subst (λ x. wanted_in table v x ≡ true) (sym q) t) (wanted_self table v)) in
    let d : suc v * (boxes - 1) ≤ PAIRS = pairs_most lv most in
    let s : k ≡ length (arrows_upto (wanted_in table) boxes v) + length (arrows_from (wanted_in table) v u) =
    h.count ∙ length-append (arrows_upto (wanted_in table) boxes v) (arrows_from (wanted_in table) v u) in
    omega (arith, suc-mul v (boxes - 1))
