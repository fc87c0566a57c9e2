-- Laws of lines and fields, by the place where each starts. Assumes nothing.
use Rattle.std.proofs.Common.{◌≡◌, ℕ, zero, suc, ◌+◌, ◌-◌, ◌<◌, ◌≤◌, Bool, true, false, cond, ◌&&◌, eqb, ltb, leb, Option, Some, None, List, [], ◌∷◌, length, get_or, take, drop, sym, refl, ap, ◌∙◌, suc-le-suc, zero-le, add-one, arith, length-drop, drop_of_length-le, get_or-drop, drop-cons, drop-drop, ltb-false, ltb-true, eq-eqb, ne_eqb, eqb-true, le-leb}
use native.Mathlib.Decide.{dec_lt}
use mathlib.Core.Logic.{◌⊎◌, inl, inr}
use denote.Ref.{Bor}
use Rattle.std.specs.List.{position_or_len, slice_range}
use Rattle.std.specs.Option.{MatchOption, unwrap_or}
use Rattle.std.specs.Cmp.Lexicographic.{pointwise}
use Rattle.std.proofs.lemmas.List.Recursion.{is_position_or_len}
use Rattle.std.proofs.Common.{take_all}
use lib.Dec.{leb-zero, leb-suc-suc}
use borrow.Author.Tests.{lt-leb}
use Rattle.text.specs.declared.Line.{Line}
use Rattle.text.specs.Lines.{line_to, line_from, before, onto, lines, fields, end_of, field_from, fields_at, same, Ended}

-- what stands from a place on: its first byte and the rest
pub at : (s : List ℕ) (i : ℕ) → i < length s → drop i s ≡ get_or s i 0 ∷ drop (i + 1) s
at s i h = rw (add-one, drop-cons s i 0)

pub before_le : (b : ℕ) (s : List ℕ) → before b s ≤ length s
unfolding before
before_le b [] = zero-le
before_le b (x ∷ xs) = go (eqb x b) (before_le b xs)
  where
    go : (t : Bool) → before b xs ≤ length xs → cond t 0 (suc (before b xs)) ≤ suc (length xs)
    go true h = zero-le
    go false h = suc-le-suc h

pub before_same : (x b : ℕ) (xs : List ℕ) → eqb x b ≡ true → before b (x ∷ xs) ≡ 0
unfolding before
before_same x b xs e = simp e

pub before_other : (x b : ℕ) (xs : List ℕ) → eqb x b ≡ false → before b (x ∷ xs) ≡ suc (before b xs)
unfolding before
before_other x b xs e = simp e

-- what stands at i is not passed
pub before_hit : (b : ℕ) (s : List ℕ) (i : ℕ) → i < length s → get_or s i 0 ≡ b → before b s ≤ i
unfolding before
before_hit b [] i h e = absurd (omega arith)
before_hit b (x ∷ xs) zero h e = simp (eq-eqb x b e) zero-le
before_hit b (x ∷ xs) (suc i) h e = go (eqb x b) (before_hit b xs i (omega arith) e)
  where
    go : (t : Bool) → before b xs ≤ i → cond t 0 (suc (before b xs)) ≤ suc i
    go true h = zero-le
    go false h = suc-le-suc h

-- a byte is looked for from the front: where it was found, or the length where it was not
pub first_found : (b : ℕ) (xs : List ℕ) (o : Option ℕ) → o ≡ cond (ltb (position_or_len (λ x. eqb x b) xs) (length xs)) (Some (position_or_len (λ x. eqb x b) xs)) None → unwrap_or o (length xs) ≡ before b xs
unfolding before
first_found b xs o h = go (ltb (position_or_len (λ x. eqb x b) xs) (length xs)) refl (before_le b xs) h
  where
    e : before b xs ≡ position_or_len (λ x. eqb x b) xs
    e = is_position_or_len (before b) (λ x. eqb x b) refl (λ x xs. ap (λ (n : ℕ). cond (eqb x b) 0 n) (omega arith)) xs

    go : (t : Bool) → ltb (position_or_len (λ x. eqb x b) xs) (length xs) ≡ t → before b xs ≤ length xs → o ≡ cond t (Some (position_or_len (λ x. eqb x b) xs)) None → unwrap_or o (length xs) ≡ before b xs
    go true q k h = rw h (sym e)
    go false q k h =
        let z : length xs ≤ position_or_len (λ x. eqb x b) xs = ltb-false _ _ q in
        let y : length xs ≡ before b xs = omega (arith, e) in
        rw h y

-- what is behind a place, nothing where the place is behind the end
pub tail_is : (s : List ℕ) (i : ℕ) (o : Option (Bor (List ℕ))) (e : Bor (List ℕ)) → e.now ≡ []
    → MatchOption o ((length s < i) ⊎ (length s < length s)) (λ x. (i ≤ length s) × (length s ≤ length s) × (x.now ≡ slice_range s i (length s)) × (length x.now + i ≡ length s))
    → (unwrap_or o e).now ≡ drop i s
tail_is s i (Some x) e z h = h.2 ∙ take_all (length s - i) (drop i s) (simp length-drop (omega arith))
tail_is s i None e z h = z ∙ sym (drop_of_length-le s {i = i} (past h))
  where
    past : (length s < i) ⊎ (length s < length s) → length s ≤ i
    past (inl k) = omega arith
    past (inr k) = absurd (omega arith)

pub tail_at : (s : List ℕ) (i : ℕ) (x : Bor (List ℕ)) → (i ≤ length s) × (length s ≤ length s) × (x.now ≡ slice_range s i (length s)) × (length x.now + i ≡ length s) → x.now ≡ drop i s
tail_at s i x h = h.2 ∙ take_all (length s - i) (drop i s) (simp length-drop (omega arith))

-- a byte of what is behind a place
pub byte_is : (s : List ℕ) {r : List ℕ} (i k : ℕ) → r ≡ drop i s → k < length r → (i + k < length s) × (get_or s (i + k) 0 ≡ get_or r k 0)
byte_is s {r} i k e h =
    let n : length r ≡ length s - i = rw e (length-drop i s) in
    (omega arith, sym (rw e (get_or-drop i s k 0)))

-- equality of bytes as the standard library has it
pub same_as : (a b : List ℕ) → pointwise eqb a b ≡ same a b
unfolding same
same_as [] [] = refl
same_as [] (y ∷ ys) = refl
same_as (x ∷ xs) [] = refl
same_as (x ∷ xs) (y ∷ ys) = ap (λ t. eqb x y && t) (same_as xs ys)

-- whether a word is the first field is told by as many bytes as it has, and one more
word_in : (l w : List ℕ) (k : ℕ) → length w < k → same (take (before 9 (take k l)) (take k l)) w ≡ same (take (before 9 l) l) w
unfolding before same
word_in l w zero h = absurd (omega arith)
word_in [] w (suc k) h = refl
word_in (x ∷ xs) w (suc k) h = go w h (eqb x 9) (λ ys g. word_in xs ys k g)
  where
    go : (w : List ℕ) → length w < suc k → (t : Bool)
        → ((ys : List ℕ) → length ys < k → same (take (before 9 (take k xs)) (take k xs)) ys ≡ same (take (before 9 xs) xs) ys)
        → same (take (cond t 0 (suc (before 9 (take k xs)))) (x ∷ take k xs)) w ≡ same (take (cond t 0 (suc (before 9 xs))) (x ∷ xs)) w
    go w h true r = refl
    go [] h false r = refl
    go (y ∷ ys) h false r = ap (λ t. eqb x y && t) (r ys (omega arith))

pub head_same : (l w : List ℕ) (k : ℕ) → (k ≤ length w → length l ≤ k) → same (take (before 9 (take k l)) (take k l)) w ≡ same (field_from l 0) w
head_same l w k h = go (dec_lt (length w) k)
  where
    go : Dec (length w < k) → same (take (before 9 (take k l)) (take k l)) w ≡ same (field_from l 0) w
    go (yes g) = word_in l w k g
    go (no g) = rw (take_all k l (h (omega arith))) refl

module _ (s : List ℕ) (b i : ℕ) where
  -- the end, by the byte at a place
  pub end_here : i < length s → get_or s i 0 ≡ b → end_of b s i ≡ i
  end_here h e = rw (at s i h) (omega (arith, before_same _ b (drop (i + 1) s) (eq-eqb _ _ e)))

  pub end_past : i < length s → (get_or s i 0 ≡ b → ⊥) → end_of b s i ≡ end_of b s (i + 1)
  end_past h e = rw (at s i h) (omega (arith, before_other _ b (drop (i + 1) s) (ne_eqb _ _ e)))

  pub end_over : length s ≤ i → end_of b s i ≡ i
  unfolding before
  end_over h = rw (drop_of_length-le s {i = i} h) (omega arith)

  pub end_within : i ≤ length s → end_of b s i ≤ length s
  end_within h = omega (arith, before_le b (drop i s), length-drop i s)

module _ (l : List ℕ) (i : ℕ) where
  -- the field from a place on, by the byte there
  pub field_here : i < length l → get_or l i 0 ≡ 9 → field_from l i ≡ []
  field_here h e = rw (at l i h, before_same _ 9 (drop (i + 1) l) (eq-eqb _ _ e))

  pub field_past : i < length l → (get_or l i 0 ≡ 9 → ⊥) → field_from l i ≡ get_or l i 0 ∷ field_from l (i + 1)
  field_past h e = rw (at l i h, before_other _ 9 (drop (i + 1) l) (ne_eqb _ _ e))

  pub field_over : length l ≤ i → field_from l i ≡ []
  unfolding before
  field_over h = rw (drop_of_length-le l {i = i} h)

-- the first field and the rest
fields_cons : (l : List ℕ) → fields l ≡ take (before 9 l) l ∷ cond (leb (suc (before 9 l)) (length l)) (fields (drop (suc (before 9 l)) l)) []
unfolding before fields onto
fields_cons [] = refl
fields_cons (x ∷ xs) = go (eqb x 9) (fields_cons xs)
  where
    go : (t : Bool)
        → fields xs ≡ take (before 9 xs) xs ∷ cond (leb (suc (before 9 xs)) (length xs)) (fields (drop (suc (before 9 xs)) xs)) []
        → cond t ([] ∷ fields xs) (onto x (fields xs)) ≡ take (cond t 0 (suc (before 9 xs))) (x ∷ xs) ∷ cond (leb (suc (cond t 0 (suc (before 9 xs)))) (suc (length xs))) (fields (drop (suc (cond t 0 (suc (before 9 xs)))) (x ∷ xs))) []
    go true f = simp (le-leb 1 (suc (length xs)) (omega arith))
    go false f = rw f (simp leb-suc-suc)

pub fields_all : (l : List ℕ) → fields l ≡ fields_at l 0
fields_all l = simp leb-zero

pub fields_none : (l : List ℕ) (i : ℕ) → length l < i → fields_at l i ≡ []
fields_none l i h = rw (lt-leb i (length l) h)

pub fields_next : (l : List ℕ) (i : ℕ) → i ≤ length l → fields_at l i ≡ field_from l i ∷ fields_at l (end_of 9 l i + 1)
fields_next l i h =
    let e : leb (suc (before 9 (drop i l))) (length l - i) ≡ leb (end_of 9 l i + 1) (length l) = go (dec_lt (before 9 (drop i l)) (length l - i)) in
    let n : i + suc (before 9 (drop i l)) ≡ end_of 9 l i + 1 = omega arith in
    rw (le-leb i (length l) h, fields_cons (drop i l), length-drop, e, drop-drop, n)
  where
    go : Dec (before 9 (drop i l) < length l - i) → leb (suc (before 9 (drop i l))) (length l - i) ≡ leb (end_of 9 l i + 1) (length l)
    go (yes g) = le-leb (suc (before 9 (drop i l))) (length l - i) (omega arith) ∙ sym (le-leb (end_of 9 l i + 1) (length l) (omega arith))
    go (no g) = lt-leb (suc (before 9 (drop i l))) (length l - i) (omega arith) ∙ sym (lt-leb (end_of 9 l i + 1) (length l) (omega arith))

-- the first field, which is no longer than its line
pub first_field : (l : List ℕ) → field_from l 0 ≡ get_or (fields l) 0 []
first_field l = sym (rw (fields_all l, fields_next l 0 (omega arith)))

pub same_is : (a b : List ℕ) → same a b ≡ true → a ≡ b
unfolding same
same_is [] [] e = refl
same_is [] (y ∷ ys) e = let z : ◌≡◌ {A = ℕ} 0 1 = cc in absurd (omega arith)
same_is (x ∷ xs) [] e = let z : ◌≡◌ {A = ℕ} 0 1 = cc in absurd (omega arith)
same_is (x ∷ xs) (y ∷ ys) e = go (eqb x y) refl (same_is xs ys) e
  where
    go : (t : Bool) → eqb x y ≡ t → (same xs ys ≡ true → xs ≡ ys) → (t && same xs ys) ≡ true → ◌≡◌ {A = List ℕ} (x ∷ xs) (y ∷ ys)
    go true q f e = let a : x ≡ y = eqb-true x y q in let b : xs ≡ ys = f e in cc
    go false q f e = let z : ◌≡◌ {A = ℕ} 0 1 = cc in absurd (omega arith)

-- a text with an LF: its first line and the rest
lines_cons : (l : List ℕ) → before 10 l < length l → lines l ≡ take (before 10 l) l ∷ lines (drop (suc (before 10 l)) l)
unfolding before lines onto
lines_cons [] h = absurd (omega arith)
lines_cons (x ∷ xs) h = go (eqb x 10) h (lines_cons xs)
  where
    go : (t : Bool) → cond t 0 (suc (before 10 xs)) < suc (length xs)
        → (before 10 xs < length xs → lines xs ≡ take (before 10 xs) xs ∷ lines (drop (suc (before 10 xs)) xs))
        → cond t ([] ∷ lines xs) (onto x (lines xs)) ≡ take (cond t 0 (suc (before 10 xs))) (x ∷ xs) ∷ lines (drop (suc (cond t 0 (suc (before 10 xs)))) (x ∷ xs))
    go true h f = refl
    go false h f = rw (f (omega arith))

-- a text that ends in LF, from a place within it on
module _ {t : List ℕ} (q : Ended t) (i : ℕ) (g : i < length t) where
  last_is : get_or (drop i t) (length t - 1 - i) 0 ≡ 10
  last_is = rw get_or-drop (ap (λ (j : ℕ). get_or t j 0) (omega arith) ∙ q.last)

  pub line_ends : end_of 10 t i < length t
  line_ends = omega (arith, before_hit 10 (drop i t) (length t - 1 - i) (simp length-drop (omega arith)) last_is)

  pub line_next : lines (drop i t) ≡ take (end_of 10 t i - i) (drop i t) ∷ lines (drop (end_of 10 t i + 1) t)
  line_next =
      let len : length (drop i t) ≡ length t - i = length-drop i t in
      let short : end_of 10 t i - i ≡ before 10 (drop i t) = omega arith in
      let next : i + suc (before 10 (drop i t)) ≡ end_of 10 t i + 1 = omega arith in
      rw (lines_cons (drop i t) (omega (arith, line_ends)), drop-drop, next, short)

pub no_lines : (t : List ℕ) (i : ℕ) → length t ≤ i → lines (drop i t) ≡ []
unfolding lines
no_lines t i h = rw (drop_of_length-le t h)

-- what a found line says of its place
pub record Found (t : List ℕ) (at start end next : ℕ) : Type 0 where
  pub within : at < length t
  pub start_is : start ≡ at
  pub end_is : end ≡ end_of 10 t at
  pub next_is : next ≡ end_of 10 t at + 1

pub line_found : (t : List ℕ) (at : ℕ) (l : Line) → line_from t at ≡ Some l → Found t at l.start l.end l.next
line_found t at l h = go (ltb at (length t)) refl h
  where
    go : (b : Bool) → ltb at (length t) ≡ b → cond b (Some (line_to at (end_of 10 t at))) None ≡ Some l → Found t at l.start l.end l.next
    go true q h =
        let e : line_to at (end_of 10 t at) ≡ l = cc in
        record { within = ltb-true _ _ q; start_is = sym (ap (λ (x : Line). x.start) e); end_is = sym (ap (λ (x : Line). x.end) e); next_is = sym (ap (λ (x : Line). x.next) e) }
    go false q h = let z : ◌≡◌ {A = ℕ} 0 1 = cc in absurd (omega arith)

pub line_ended : (t : List ℕ) (at : ℕ) → line_from t at ≡ None → length t ≤ at
line_ended t at h = go (ltb at (length t)) refl h
  where
    go : (b : Bool) → ltb at (length t) ≡ b → cond b (Some (line_to at (end_of 10 t at))) None ≡ None → length t ≤ at
    go true q h = let z : ◌≡◌ {A = ℕ} 0 1 = cc in absurd (omega arith)
    go false q h = ltb-false _ _ q
