-- Moving what is kept to the front: what the buffer holds when the loop has come to i.
-- Assumes nothing.
use mathlib.Core.Path.{◌≡◌, refl, sym, ◌∙◌, ap, subst}
use mathlib.Core.List.{List, [], ◌∷◌, ◌++◌, append_assoc, append-nil}
use Prim.Native.Nat.{ℕ, ◌+◌, ◌-◌, ◌<◌, ◌≤◌}
use native.Mathlib.Omega.{arith}
use native.Mathlib.Numerals.{add-one}
use lib.Dec.{eqb}
use lib.ListN.{length, get_or, take, drop, set, replicate, length-append, length-replicate, length-drop, replicate-append-replicate}
use lib.Seq.{take-suc, drop-cons, take_all, drop-length, get_or_at, set-append_seam}
use borrow.Author.Tests.{ne_eqb}
use Rattle.laws.specs.Choice.{choose}
use Rattle.laws.proofs.Tests.{by_test}
use Rattle.purge.specs.Sets.{present}

-- m is what the buffer held at first
pub record Gathered (m : List ℕ) (i count : ℕ) (kept : List ℕ) : Type 0 where
  pub dropped : ℕ
  pub total : count + dropped ≡ i
  pub within : i ≤ length m
  pub counted : count ≡ length (present (take i m))
  pub holds : kept ≡ present (take i m) ++ (replicate dropped 255 ++ drop i m)

present_append : (xs ys : List ℕ) → present (xs ++ ys) ≡ present xs ++ present ys
unfolding present choose
present_append [] ys = refl
present_append (x ∷ xs) ys =
    by_test (eqb x 255) (λ e. rw e (present_append xs ys)) (λ e. rw e (ap (λ l. x ∷ l) (present_append xs ys)))

set_seam : (p : List ℕ) (y : ℕ) (ys : List ℕ) (n a : ℕ) → length p ≡ n → set (p ++ (y ∷ ys)) n a ≡ p ++ (a ∷ ys)
set_seam p y ys n a e = subst (λ k. set (p ++ (y ∷ ys)) k a ≡ p ++ (a ∷ ys)) e (set-append_seam p y ys a)

one_more : (d : ℕ) (ys : List ℕ) → replicate d 255 ++ (255 ∷ ys) ≡ replicate (d + 1) 255 ++ ys
one_more d ys = sym (append_assoc (replicate d 255) (255 ∷ []) ys) ∙ ap (λ l. l ++ ys) (replicate-append-replicate d 1 255)

pub gathered_start : (m : List ℕ) → Gathered m 0 0 m
unfolding present
gathered_start m = record { dropped = 0; total = omega arith; within = omega arith; counted = refl; holds = refl }

module _ (m : List ℕ) (i count : ℕ) (kept : List ℕ) (g : Gathered m i count kept) where
  pub gathered_length : length kept ≡ length m
  gathered_length =
      let t = g.total in
      let w = g.within in
      let c = g.counted in
      ap length g.holds ∙ simp (length-append, length-replicate, length-drop) (omega arith)

  pub gathered_below : count ≤ i
  gathered_below = let t = g.total in omega arith

  module _ (more : i < length m) where
    split : kept ≡ (present (take i m) ++ replicate g.dropped 255) ++ (get_or m i 0 ∷ drop (i + 1) m)
    split =
        g.holds ∙ ap (λ l. present (take i m) ++ (replicate g.dropped 255 ++ l)) (rw add-one (drop-cons m i 0 more))
        ∙ sym (append_assoc (present (take i m)) (replicate g.dropped 255) (get_or m i 0 ∷ drop (i + 1) m))

    front : length (present (take i m) ++ replicate g.dropped 255) ≡ i
    front = let t = g.total in let c = g.counted in simp (length-append, length-replicate) (omega arith)

    next_present : present (take (i + 1) m) ≡ present (take i m) ++ present (get_or m i 0 ∷ [])
    next_present = rw (add-one, take-suc m i 0 more) (present_append (take i m) (get_or m i 0 ∷ []))

    -- the loop reads what stood there at first
    gathered_read : get_or kept i 0 ≡ get_or m i 0
    gathered_read = ap (λ l. get_or l i 0) split ∙ get_or_at (present (take i m) ++ replicate g.dropped 255) (get_or m i 0) (drop (i + 1) m) 0 i front

    pub gathered_dropped : get_or kept i 0 ≡ 255 → Gathered m (i + 1) count kept
    unfolding present choose
    gathered_dropped h =
        let t = g.total in
        let e : get_or m i 0 ≡ 255 = sym gathered_read ∙ h in
        let p : present (take (i + 1) m) ≡ present (take i m) =
        next_present ∙ ap (λ x. present (take i m) ++ present (x ∷ [])) e ∙ append-nil (present (take i m)) in
        record {
          dropped = g.dropped + 1;
          total = omega arith;
          within = omega arith;
          counted = g.counted ∙ sym (ap length p);
          holds = split ∙ append_assoc (present (take i m)) (replicate g.dropped 255) _
              ∙ ap (λ x. present (take i m) ++ (replicate g.dropped 255 ++ (x ∷ drop (i + 1) m))) e
              ∙ ap (λ l. present (take i m) ++ l) (one_more g.dropped (drop (i + 1) m))
              ∙ sym (ap (λ l. l ++ (replicate (g.dropped + 1) 255 ++ drop (i + 1) m)) p);
        }

    moved : (get_or m i 0 ≡ 255 → ⊥) → Gathered m (i + 1) (count + 1) (set (set kept i 255) count (get_or m i 0))
    unfolding present choose
    moved n =
        let t = g.total in
        let p : present (take (i + 1) m) ≡ present (take i m) ++ (get_or m i 0 ∷ []) = next_present ∙ rw (ne_eqb _ _ n) refl in
        let a : set kept i 255 ≡ present (take i m) ++ (255 ∷ (replicate g.dropped 255 ++ drop (i + 1) m)) =
        ap (λ l. set l i 255) split
        ∙ set_seam (present (take i m) ++ replicate g.dropped 255) (get_or m i 0) (drop (i + 1) m) i 255 front
        ∙ append_assoc (present (take i m)) (replicate g.dropped 255) (255 ∷ drop (i + 1) m)
        ∙ ap (λ l. present (take i m) ++ l) (one_more g.dropped (drop (i + 1) m))
        ∙ ap (λ k. present (take i m) ++ (replicate k 255 ++ drop (i + 1) m)) (add-one g.dropped) in
        record {
          dropped = g.dropped;
          total = omega arith;
          within = omega arith;
          counted = let c = g.counted in rw (p, length-append) (omega arith);
          holds = ap (λ l. set l count (get_or m i 0)) a
              ∙ set_seam (present (take i m)) 255 _ count (get_or m i 0) (sym g.counted)
              ∙ sym (append_assoc (present (take i m)) (get_or m i 0 ∷ []) _)
              ∙ sym (ap (λ l. l ++ (replicate g.dropped 255 ++ drop (i + 1) m)) p);
        }

    pub gathered_kept : (get_or kept i 0 ≡ 255 → ⊥) → Gathered m (i + 1) (count + 1) (set (set kept i 255) count (get_or kept i 0))
    gathered_kept n = rw gathered_read (moved (λ e. n (gathered_read ∙ e)))

  pub gathered_end : length m ≤ i → (count ≡ length (present m)) × (kept ≡ present m ++ replicate (length m - count) 255)
  gathered_end l =
      let t = g.total in
      let w = g.within in
      let whole : take i m ≡ m = take_all i m l in
      let e : i ≡ length m = omega arith in
      let none : drop i m ≡ [] = ap (λ k. drop k m) e ∙ drop-length m in
      let d : g.dropped ≡ length m - count = omega arith in (
        g.counted ∙ ap (λ l. length (present l)) whole,
        g.holds ∙ ap (λ l. present (take i m) ++ (replicate g.dropped 255 ++ l)) none
            ∙ ap (λ l. present (take i m) ++ l) (append-nil (replicate g.dropped 255))
            ∙ ap (λ l. present l ++ replicate g.dropped 255) whole ∙ ap (λ k. present m ++ replicate k 255) d,
      )
