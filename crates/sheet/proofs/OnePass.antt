-- Laws of reading in one pass: a number digit by digit, and the line that its numbers make. Assumes nothing.
use Rattle.std.proofs.Math.ListN.{get_or-eq_default}
use Rattle.std.proofs.Common.{drop-drop}
use Rattle.std.proofs.lemmas.List.{take-append-drop}
use Rattle.std.specs.Prelude.{Ok, Option, Some, None}
use Prim.Native.Nat.{ℕ, suc, ◌+◌, ◌-◌, ◌<◌}
use mathlib.Core.Path.{◌≡◌, refl, sym, ap, ◌∙◌}
use mathlib.Core.List.{List, [], ◌∷◌, ◌++◌, append_assoc}
use mathlib.Core.Bool.{Bool, true, false, cond}
use native.Mathlib.Omega.{arith}
use native.Mathlib.Decide.{dec_lt}
use lib.ListN.{length, get_or, set, take, drop, replicate, length-append, length-drop}
use lib.Seq.{get_or-drop, get_or-append_seam, take-append_seam}
use lib.Dec.{eqb}
use borrow.Author.Tests.{eqb-true, lt-ltb, eq-eqb, ne_eqb}
use Rattle.laws.specs.Lists.{All}
use Rattle.text.specs.Number.{on_number, digit, more, number}
use Rattle.text.specs.Lines.{before, onto, fields, same, end_of, line_at, Ended}
use Rattle.text.proofs.Digits.{digit_not_low}
use Rattle.text.proofs.Parts as parts
use Rattle.sheet.specs.declared.Digits.{Digits}
use Rattle.sheet.specs.declared.Arrows.TheVariants as arrow
use Rattle.sheet.specs.Words as words
use Rattle.sheet.specs.Numbers.{as_step, as_class, said, four, each, numbers, word, record_of}
use Rattle.sheet.specs.Records.{go_limits, view_limits, arrow_limits, go_line, view_line, arrow_line, flow_line}
use Rattle.sheet.specs.Phases.{taken, taken_by}
use Rattle.sheet.specs.OnePass.{Standing, NumberAt, MoreAt, NumberRead, MoreRead, Begins, ArrowAt, ArrowRead}

-- ---- places in a text that ends in LF
module _ {t : List ℕ} (q : Ended t) where
  -- a byte that is no LF is not the last
  pub not_last : (at : ℕ) → at < length t → (get_or t at 0 ≡ 10 → ⊥) → at + 1 < length t
  not_last at h n = go (dec_lt (at + 1) (length t))
    where
      go : Dec (at + 1 < length t) → at + 1 < length t
      go (yes g) = g
      go (no g) = let e : at ≡ length t - 1 = omega arith in absurd (n (ap (λ (i : ℕ). get_or t i 0) e ∙ q.last))

  pub after_digit : (limit v w at : ℕ) → at < length t → digit limit v (get_or t at 0) ≡ Some w → at + 1 < length t
  after_digit limit v w at h g = not_last at h (λ e. digit_not_low limit v (get_or t at 0) w g (omega arith))

  -- what stands before another byte than LF does not end the text
  pub goes_on : {stop at next : ℕ} {bytes : List ℕ} → Standing t stop at bytes next → (stop ≡ 10 → ⊥) → next < length t
  goes_on {stop} {at} {next} {bytes} p n =
      let e : length t - at ≡ length bytes + suc (length (drop next t)) = sym (length-drop at t) ∙ ap length p.here ∙ length-append bytes (stop ∷ drop next t) in
      let b : get_or t (at + length bytes) 0 ≡ stop = sym (get_or-drop at t (length bytes) 0) ∙ ap (λ s. get_or s (length bytes) 0) p.here ∙ get_or-append_seam bytes stop (drop next t) 0 in
      omega (arith, p.next_is, not_last (at + length bytes) (omega arith) (λ k. n (sym b ∙ k)))

-- ---- a number, digit by digit
module _ (t : List ℕ) (stop at : ℕ) (h : at < length t) where
  pub more_none : (limit v : ℕ) → get_or t at 0 ≡ stop → MoreAt limit t stop at v v (at + 1)
  unfolding more
  more_none limit v e = record { bytes = []; standing = record { here = rw (← e) (parts.at t at h); next_is = omega arith }; says = refl }

  -- the digit at the place goes in front of what stands at the next one
  module _ (j : ℕ) (after : j ≡ at + 1) where
    one_more : {bytes : List ℕ} {next : ℕ} → Standing t stop j bytes next → Standing t stop at (get_or t at 0 ∷ bytes) next
    one_more p = record { here = rw after (parts.at t at h) ∙ ap (λ s. get_or t at 0 ∷ s) p.here; next_is = omega (arith, p.next_is) }

    pub more_one : (limit v w : ℕ) → 0 < v → digit limit v (get_or t at 0) ≡ Some w → (r : Option Digits) → MoreRead limit t stop j w r → MoreRead limit t stop at v r
    unfolding more
    more_one limit v w k g (Some x) p = record { bytes = get_or t at 0 ∷ p.bytes; standing = one_more p.standing; says = simp (ne_eqb v 0 (λ e. omega arith), g) p.says }
    more_one limit v w k g None p = tt

    pub number_one : (limit w : ℕ) → digit limit 0 (get_or t at 0) ≡ Some w → (r : Option Digits) → MoreRead limit t stop j w r → NumberRead limit t stop at r
    unfolding number
    number_one limit w g (Some x) p = record { bytes = get_or t at 0 ∷ p.bytes; standing = one_more p.standing; says = simp g p.says }
    number_one limit w g None p = tt

-- ---- what an answer says
pub number_at : (limit : ℕ) (t : List ℕ) (stop at : ℕ) (r : Option Digits) {d : Digits} → r ≡ Some d → NumberRead limit t stop at r → NumberAt limit t stop at d.value d.next
number_at limit t stop at r e p = (rw e at p)

pub word_at : (t w : List ℕ) (at b : ℕ) (r : Bool) → r ≡ true → Begins t at w r → b ≡ at + length w + 1 → Standing t 9 at w b
word_at t w at b r e p f = rw f (rw e at p)

-- ---- a word with a tab behind it
word_stands : (t w rest : List ℕ) (at : ℕ) → rest ≡ drop at t → w ≡ take (length w) rest → get_or rest (length w) 0 ≡ 9 → Standing t 9 at w (at + length w + 1)
word_stands t w rest at e p n =
    let h : length w < length rest = go (dec_lt (length w) (length rest)) in
    let k : at + (length w + 1) ≡ at + length w + 1 = omega arith in
    let front : rest ≡ w ++ drop (length w) rest = sym (take-append-drop (length w) rest) ∙ ap (λ (s : List ℕ). s ++ drop (length w) rest) (sym p) in
    record {
      here = sym e ∙ front ∙ ap (λ (s : List ℕ). w ++ s) (parts.at rest (length w) h ∙ rw (n, e, drop-drop, k));
      next_is = refl;
    }
  where
    go : Dec (length w < length rest) → length w < length rest
    go (yes g) = g
    go (no g) = let z : ◌≡◌ {A = ℕ} 0 9 = sym (get_or-eq_default rest 0 (omega arith)) ∙ n in absurd (omega arith)

pub word_begins : (t w rest : List ℕ) (at b : ℕ) → rest ≡ drop at t → w ≡ take (length w) rest → b ≡ get_or rest (length w) 0 → Begins t at w (eqb b 9)
word_begins t w rest at b e p n = go (eqb b 9) refl
  where
    go : (x : Bool) → eqb b 9 ≡ x → Begins t at w x
    go true q = word_stands t w rest at e p (sym n ∙ eqb-true b 9 q)
    go false q = tt

-- ---- plain bytes: no tab and no LF
abbrev pub Plain : List ℕ → Type 0
Plain f = All (λ x. 10 < x) f

digit_plain : (limit v d w : ℕ) → digit limit v d ≡ Some w → 10 < d
digit_plain limit v d w g = go (dec_lt d 48)
  where
    go : Dec (d < 48) → 10 < d
    go (yes k) = absurd (digit_not_low limit v d w g k)
    go (no k) = omega arith

more_plain : (limit : ℕ) (f : List ℕ) (v w : ℕ) → more limit f v ≡ Some w → Plain f
unfolding more
more_plain limit [] v w h = tt
more_plain limit (d ∷ ds) v w h = go (more_plain limit ds) (eqb v 0) (digit limit v d) refl h
  where
    go : ((v w : ℕ) → more limit ds v ≡ Some w → Plain ds) → (t : Bool) (n : Option ℕ) → digit limit v d ≡ n → cond t None (on_number n (more limit ds) None) ≡ Some w → Plain (d ∷ ds)
    go f true n q h = let z : ◌≡◌ {A = ℕ} 0 1 = cc in absurd (omega arith)
    go f false (Some u) q h = (digit_plain limit v d u q, f u w h)
    go f false None q h = let z : ◌≡◌ {A = ℕ} 0 1 = cc in absurd (omega arith)

number_plain : (limit : ℕ) (f : List ℕ) (w : ℕ) → number limit f ≡ Some w → Plain f
unfolding number
number_plain limit [] w h = let z : ◌≡◌ {A = ℕ} 0 1 = cc in absurd (omega arith)
number_plain limit (d ∷ ds) w h = go (digit limit 0 d) refl h
  where
    go : (n : Option ℕ) → digit limit 0 d ≡ n → on_number n (more limit ds) None ≡ Some w → Plain (d ∷ ds)
    go (Some u) q h = (digit_plain limit 0 d u q, more_plain limit ds u w h)
    go None q h = let z : ◌≡◌ {A = ℕ} 0 1 = cc in absurd (omega arith)

plain_before : (f s : List ℕ) → Plain f → before 10 (f ++ s) ≡ length f + before 10 s
unfolding before
plain_before [] s p = omega arith
plain_before (x ∷ xs) s p = simp (ne_eqb x 10 (λ e. let k = p.0 in omega arith)) (omega (arith, plain_before xs s p.1))

plain_field : (f : List ℕ) → Plain f → fields f ≡ f ∷ []
unfolding fields onto
plain_field [] p = refl
plain_field (x ∷ xs) p = simp (ne_eqb x 9 (λ e. let k = p.0 in omega arith), plain_field xs p.1)

plain_fields : (f l : List ℕ) → Plain f → fields (f ++ (9 ∷ l)) ≡ f ∷ fields l
unfolding fields onto
plain_fields [] l p = refl
plain_fields (x ∷ xs) l p = simp (ne_eqb x 9 (λ e. let k = p.0 in omega arith), plain_fields xs l p.1)

-- ---- the numbers from a place up to LF, one after the other
pub data RowAt (t : List ℕ) : List ℕ → ℕ → List ℕ → ℕ → Type 0 where
  ends : {m at v next : ℕ} → NumberAt m t 10 at v next → RowAt t (m ∷ []) at (v ∷ []) next
  onward : {m at v b next : ℕ} {ms vs : List ℕ} → NumberAt m t 9 at v b → RowAt t ms b vs next → RowAt t (m ∷ ms) at (v ∷ vs) next

-- values put from a place on
abbrev stored : List ℕ → ℕ → List ℕ → List ℕ
stored [] k us = us
stored (v ∷ vs) k us = stored vs (suc k) (set us k v)

-- the bytes up to LF and their fields
record RowIs (t ms : List ℕ) (at : ℕ) (vs : List ℕ) (next : ℕ) : Type 0 where
  line : List ℕ
  fs : List (List ℕ)
  standing : Standing t 10 at line next
  no_end : (s : List ℕ) → before 10 (line ++ (10 ∷ s)) ≡ length line
  fields_are : fields line ≡ fs
  count : length fs ≡ length ms
  each_is : (k : ℕ) (us : List ℕ) → each ms fs k us ≡ four (stored vs k us)

joined : {t f l : List ℕ} {at b next : ℕ} → Standing t 9 at f b → Standing t 10 b l next → Standing t 10 at (f ++ (9 ∷ l)) next
joined {t} {f} {l} {at} {b} {next} p r = record {
  here = p.here ∙ ap (λ s. f ++ (9 ∷ s)) r.here ∙ sym (append_assoc f (9 ∷ l) (10 ∷ drop next t));
  next_is = omega (arith, p.next_is, r.next_is, length-append f (9 ∷ l));
}

joined_end : (f l s : List ℕ) → Plain f → before 10 (l ++ (10 ∷ s)) ≡ length l → before 10 ((f ++ (9 ∷ l)) ++ (10 ∷ s)) ≡ length (f ++ (9 ∷ l))
unfolding before
joined_end f l s p e = rw (append_assoc f (9 ∷ l) (10 ∷ s), plain_before f (9 ∷ (l ++ (10 ∷ s))) p, length-append f (9 ∷ l), e)

row_is : {t ms vs : List ℕ} {at next : ℕ} → RowAt t ms at vs next → RowIs t ms at vs next
unfolding each before
row_is (ends {m} {at} {v} {next} n) =
    let p = number_plain m n.bytes v n.says in
    record {
      line = n.bytes;
      fs = n.bytes ∷ [];
      standing = n.standing;
      no_end = λ s. plain_before n.bytes (10 ∷ s) p ∙ omega arith;
      fields_are = plain_field n.bytes p;
      count = refl;
      each_is = λ k us. rw n.says;
    }
row_is (onward {m} {at} {v} n r) =
    let p = number_plain m n.bytes v n.says in
    let i = row_is r in
    record {
      line = n.bytes ++ (9 ∷ i.line);
      fs = n.bytes ∷ i.fs;
      standing = joined n.standing i.standing;
      no_end = λ s. joined_end n.bytes i.line s p (i.no_end s);
      fields_are = plain_fields n.bytes i.line p ∙ ap (λ x. n.bytes ∷ x) i.fields_are;
      count = ap suc i.count;
      each_is = λ k us. rw n.says (i.each_is (suc k) (set us k v));
    }

-- ---- the line of a word and its numbers
pub record LineIs (t w ms : List ℕ) (at : ℕ) (vs : List ℕ) (next : ℕ) : Type 0 where
  pub within : at < length t
  pub word_is : word (line_at t at) ≡ w
  pub says : record_of w ms (line_at t at) ≡ four (stored vs 0 (replicate 4 0))
  pub next_is : end_of 10 t at + 1 ≡ next

same_self : (w : List ℕ) → same w w ≡ true
unfolding same
same_self [] = refl
same_self (x ∷ xs) = simp (eq-eqb x x refl, same_self xs)

module _ {t w ms vs : List ℕ} {at b next : ℕ} (p : Plain w) (s : Standing t 9 at w b) (r : RowAt t ms b vs next) where
  row : RowIs t ms b vs next
  row = row_is r

  whole : List ℕ
  whole = w ++ (9 ∷ row.line)

  stands : Standing t 10 at (w ++ (9 ∷ row.line)) next
  stands = joined s row.standing

  length_is : before 10 (drop at t) ≡ length (w ++ (9 ∷ row.line))
  length_is = rw stands.here (joined_end w row.line (drop next t) p (row.no_end (drop next t)))

  line_is : line_at t at ≡ w ++ (9 ∷ row.line)
  line_is =
      let e : at + before 10 (drop at t) - at ≡ length (w ++ (9 ∷ row.line)) = omega (arith, length_is) in
      rw (e, stands.here) (take-append_seam (w ++ (9 ∷ row.line)) (10 ∷ drop next t))

  fields_are : fields (w ++ (9 ∷ row.line)) ≡ w ∷ row.fs
  fields_are = plain_fields w row.line p ∙ ap (λ x. w ∷ x) row.fields_are

  pub line_of : LineIs t w ms at vs next
  unfolding record_of numbers
  line_of = record {
    within =
        (let e : length t - at ≡ length (w ++ (9 ∷ row.line)) + suc (length (drop next t)) = sym (length-drop at t) ∙ ap length stands.here ∙ length-append (w ++ (9 ∷ row.line)) (10 ∷ drop next t) in omega arith);
    word_is = rw (line_is, fields_are);
    says = rw (line_is, fields_are, same_self w, eq-eqb (length row.fs) (length ms) row.count) (row.each_is 0 (replicate 4 0));
    next_is = omega (arith, length_is, stands.next_is);
  }

-- ---- the lines that are due
pub quick_go : {t : List ℕ} {at s a x o next : ℕ} (states state action : ℕ) → LineIs t words.go go_limits at (s ∷ a ∷ x ∷ o ∷ []) next → s ≡ state → a ≡ action → x < states → (n : ℕ) → taken_by (λ l. as_step (go_line states state action l)) t at n ≡ Ok (taken (x, o) next)
unfolding go_line
quick_go {t} {at} {s} {a} {x} {o} {next} states state action p e f g n =
    rw (lt-ltb at (length t) p.within, p.says, eq-eqb s state e, eq-eqb a action f, lt-ltb x states g, p.next_is)

pub quick_view : {t : List ℕ} {at i s x next : ℕ} (id state : ℕ) → LineIs t words.view view_limits at (i ∷ s ∷ x ∷ []) next → i ≡ id → s ≡ state → (n : ℕ) → taken_by (λ l. as_class (view_line id state l)) t at n ≡ Ok (taken x next)
unfolding view_line
quick_view {t} {at} {i} {s} {x} {next} id state p e f n =
    rw (lt-ltb at (length t) p.within, p.says, eq-eqb i id e, eq-eqb s state f, p.next_is)

-- ---- arrows
module _ {t ids : List ℕ} {at b v u next : ℕ} (w : List ℕ) (plain : Plain w) (s : Standing t 9 at w b) (a : ArrowAt ids t b v u next) where
  arrow_line_lem : LineIs t w arrow_limits at (a.from ∷ a.to ∷ []) next
  arrow_line_lem = line_of plain s (onward a.first (ends a.second))

  arrow_says_lem : arrow_line w ids (line_at t at) ≡ said v u 0 0
  unfolding arrow_line
  arrow_says_lem = rw (arrow_line_lem.says, ← a.from_is, ← a.to_is, lt-ltb v (length ids) a.from_known, lt-ltb u (length ids) a.to_known)

pub quick_one : (ids t : List ℕ) (at b : ℕ) (r : Option (ℕ × ℕ × ℕ)) {x : ℕ × ℕ × ℕ} → Standing t 9 at words.flow b → r ≡ Some x → ArrowRead ids t b r → (n : ℕ) → taken_by (flow_line ids) t at n ≡ Ok (taken (Some (arrow.One x.0 x.1)) x.2)
unfolding flow_line same
quick_one ids t at b r s e p n =
    let a = (rw e at p) in
    let k : Plain words.flow = (omega arith, (omega arith, (omega arith, (omega arith, tt)))) in
    rw (lt-ltb at (length t) (arrow_line_lem words.flow k s a).within, (arrow_line_lem words.flow k s a).word_is, arrow_says_lem words.flow k s a, (arrow_line_lem words.flow k s a).next_is)

pub quick_two : (ids t : List ℕ) (at b : ℕ) (r : Option (ℕ × ℕ × ℕ)) {x : ℕ × ℕ × ℕ} → Standing t 9 at words.both b → r ≡ Some x → ArrowRead ids t b r → (n : ℕ) → taken_by (flow_line ids) t at n ≡ Ok (taken (Some (arrow.Two x.0 x.1)) x.2)
unfolding flow_line same
quick_two ids t at b r s e p n =
    let a = (rw e at p) in
    let k : Plain words.both = (omega arith, (omega arith, (omega arith, (omega arith, tt)))) in
    rw (lt-ltb at (length t) (arrow_line_lem words.both k s a).within, (arrow_line_lem words.both k s a).word_is, arrow_says_lem words.both k s a, (arrow_line_lem words.both k s a).next_is)
