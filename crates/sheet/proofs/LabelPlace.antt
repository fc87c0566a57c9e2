-- Where a label stands: within its line, and its line within the text. Assumes nothing.
use Prim.Native.Nat.{ℕ, zero, suc, ◌+◌, ◌-◌, ◌<◌, ◌≤◌}
use mathlib.Core.Path.{◌≡◌, refl, sym, ap, ◌∙◌}
use mathlib.Core.List.{List, [], ◌∷◌}
use mathlib.Core.Bool.{Bool, true, false, cond}
use native.Mathlib.Omega.{arith}
use native.Mathlib.Nat.{sub-zero, zero-sub, suc-sub-suc}
use native.Mathlib.Numerals.{add-one}
use native.Mathlib.Decide.{dec_lt}
use borrow.Author.Tests.{ltb-true, lt-ltb, le-ltb}
use lib.ListN.{length, get_or, take, drop, set, length-drop}
use lib.Seq.{length-take-le, take_all, take-nil, drop-drop}
use lib.Dec.{ltb}
use Rattle.model.specs.Limits.{BOXES}
use Rattle.model.specs.declared.Sizes.{Sizes}
use Rattle.text.specs.Lines.{before, lines, end_of, line_at, fields_at, field_from, Ended}
use Rattle.text.proofs.Parts.{fields_none, fields_next, line_ends}
use Rattle.std.specs.Prelude.{Result, Ok, Err}
use Rattle.model.specs.declared.refusal.Refusal.TheVariants as why
use Rattle.model.specs.declared.refusal.Refused.{Refused}
use Rattle.model.specs.Refusal.{refused_as}
use Rattle.model.specs.declared.Model.{Model}
use Rattle.sheet.specs.declared.Place.{Place}
use Rattle.sheet.specs.Numbers.{rest}
use Rattle.sheet.specs.Records.{box_line, label_good}
use Rattle.sheet.specs.Phases.{Steps, boxes}
use Rattle.sheet.specs.Reading.{Parts, parts_as, drawn_as, parts, Reading, model, refusal, sheet_text, reading_of}
use Rattle.sheet.specs.Label.{third_field, box_start, label_place, found_in, label_found, labelled, label}
use Rattle.sheet.proofs.Fields.{rest_from}
use Rattle.sheet.proofs.Good.{sheet_good, Boxed, box_good}
use Rattle.sheet.proofs.Places.{line_there}
use Rattle.sheet.proofs.Places as places
use Rattle.sheet.proofs.Inside.{first_of_lem, each_line, inside}

abbrev pub here : ℕ → ℕ → Place
here start end = record { start = start; end = end }

-- a line of three fields: the second starts within it, and so does the third
pub second_within : (l : List ℕ) → length (rest l) ≡ 2 → end_of 9 l 0 + 1 ≤ length l
second_within l h = go (dec_lt (length l) (end_of 9 l 0 + 1))
  where
    go : Dec (length l < end_of 9 l 0 + 1) → end_of 9 l 0 + 1 ≤ length l
    go (no g) = omega arith
    go (yes g) =
        let z : length (rest l) ≡ 0 = ap length (sym (rest_from l (end_of 9 l 0) refl) ∙ fields_none l (end_of 9 l 0 + 1) g) in
        absurd (omega arith)

pub third_within : (l : List ℕ) → length (rest l) ≡ 2 → third_field l ≤ length l
third_within l h = go (dec_lt (length l) (third_field l))
  where
    go : Dec (length l < third_field l) → third_field l ≤ length l
    go (no g) = omega arith
    go (yes g) =
        let e : rest l ≡ field_from l (end_of 9 l 0 + 1) ∷ fields_at l (third_field l) = sym (rest_from l (end_of 9 l 0) refl) ∙ fields_next l (end_of 9 l 0 + 1) (second_within l h) in
        let z : length (rest l) ≡ 1 = ap length (e ∙ ap (λ (fs : List (List ℕ)). field_from l (end_of 9 l 0 + 1) ∷ fs) (fields_none l (third_field l) g)) in
        absurd (omega arith)

pub line_length : {t : List ℕ} → Ended t → (at : ℕ) → at < length t → length (line_at t at) ≡ end_of 10 t at - at
line_length {t} q at h = length-take-le (end_of 10 t at - at) (drop at t) (omega (arith, length-drop at t, line_ends q at h))

-- the `box` line of a position below the count of boxes
pub record BoxThere (t : List ℕ) (position : ℕ) : Type 0 where
  pub closed : Ended t
  pub small : position < BOXES
  pub there : position + 1 < length (lines t)
  pub before : List ℕ
  pub id : ℕ
  pub is : Boxed before (line_at t (box_start t position)) id

pub box_there : (t : List ℕ) {z : Sizes} {p : Parts} → sheet_text t ≡ model z p → (position : ℕ) → position < z.boxes → BoxThere t position
unfolding parts
box_there t {z} {p} h position g =
    let i = inside t h in
    let r = first_of_lem (boxes z.boxes i.others 2) i.body in
    let w = each_line (λ k ids. box_line (take k ids)) (λ k ids id _ _ _. set ids k id) z.boxes 0 _ i.others 2 r.is position g in
    let l : length (lines t) ≡ suc (length i.others) = ap length i.lines_are in
    let n : position + 1 < length (lines t) = omega (arith, w.1) in
    let e : line_at t (box_start t position) ≡ get_or i.others position [] =
    line_there i.closed (position + 1) n ∙ rw (i.lines_are, add-one position) in
    record {
      closed = i.closed;
      small = omega (arith, (sheet_good i.first i.sizes).boxes_most);
      there = n;
      before = take (0 + position) w.0.before;
      id = w.0.a;
      is = rw e (box_good _ (get_or i.others position []) w.0.is);
    }

-- a label that is found is a part of the text
pub found_within : (t : List ℕ) (position : ℕ) (x : Place) → label_found t position ≡ Ok x → (x.start ≤ x.end) × (x.end ≤ length t)
unfolding label_found
found_within t position x h = go (sheet_text t) refl h
  where
    refusal_is_none : {r : Refused} {A : Type 0} → ◌≡◌ {A = Result Place Refused} (Err r) (Ok x) → A
    refusal_is_none h = let z : ◌≡◌ {A = ℕ} 0 1 = cc in absurd (omega arith)

    there : BoxThere t position → ◌≡◌ {A = Result Place Refused} (Ok (label_place t position)) (Ok x) → (x.start ≤ x.end) × (x.end ≤ length t)
    there b h =
        let p = (places.placed b.closed (position + 1) b.there).within in
        let w : label_place t position ≡ x = cc in
        let s : box_start t position + third_field (line_at t (box_start t position)) ≡ x.start = ap (λ (y : Place). y.start) w in
        let e : end_of 10 t (box_start t position) ≡ x.end = ap (λ (y : Place). y.end) w in
        (omega (arith, third_within (line_at t (box_start t position)) b.is.three, line_length b.closed (box_start t position) p, line_ends b.closed (box_start t position) p), omega (arith, line_ends b.closed (box_start t position) p))

    go : (r : Reading) → sheet_text t ≡ r → found_in r t position ≡ Ok x → (x.start ≤ x.end) × (x.end ≤ length t)
    go (refusal e n) q h = refusal_is_none h
    go (model z p) q h = which (ltb position z.boxes) refl h
      where
        which : (u : Bool) → ltb position z.boxes ≡ u → cond u (Ok (label_place t position)) (Err (refused_as why.Range 0)) ≡ Ok x → (x.start ≤ x.end) × (x.end ≤ length t)
        which true w h = there (box_there t q position (ltb-true _ _ w)) h
        which false w h = refusal_is_none h

-- the steps by which the code finds a label's place
module _ {t : List ℕ} (position : ℕ) (q : Ended t) (there : position + 1 < length (lines t)) (three : length (rest (line_at t (box_start t position))) ≡ 2) {start : ℕ} (s : start ≡ box_start t position) where
  pub start_within : start < length t
  start_within = rw s (places.placed q (position + 1) there).within

  pub end_within : {end : ℕ} → end ≡ end_of 10 t start → end < length t
  end_within e = omega (arith, e, line_ends q start start_within)

  module _ {end : ℕ} (e : end ≡ end_of 10 t start) where
    line_is : take (end - start) (drop start t) ≡ line_at t (box_start t position)
    line_is = rw (e, s)

    long : length (line_at t (box_start t position)) ≡ end - start
    long = rw (e, s) (line_length q (box_start t position) (places.placed q (position + 1) there).within)

    module _ {word : ℕ} (w : word ≡ end_of 9 (take (end - start) (drop start t)) 0) where
      word_is : word ≡ end_of 9 (line_at t (box_start t position)) 0
      word_is = rw (← line_is) w

      pub word_within : word + 1 < length t
      word_within = omega (arith, second_within (line_at t (box_start t position)) three, long, word_is, end_within e)

      module _ {id : ℕ} (i : id ≡ end_of 9 (take (end - start) (drop start t)) (word + 1)) where
        id_is : id + 1 ≡ third_field (line_at t (box_start t position))
        id_is = rw (i, line_is, word_is)

        pub id_within : start + (id + 1) < length t
        id_within = omega (arith, third_within (line_at t (box_start t position)) three, long, id_is, end_within e, start_within)

        pub place_is : here (start + (id + 1)) end ≡ label_place t position
        place_is = rw (id_is, e, s)

-- the label call's cases, by what the reader's answer says
module _ (t : List ℕ) (a : Result Model Refused) (s : Steps) (v : List ℕ) (h : reading_of a s v ≡ sheet_text t) (position : ℕ) where
  pub found_refused : (r : Refused) → a ≡ Err r → Err r ≡ label_found t position
  unfolding label_found
  found_refused r q = rw (← h, q)

  module _ {m : Model} (q : a ≡ Ok m) where
    is_model_lem : sheet_text t ≡ model m.machine.sizes (parts_as m.ids m.machine.owners (drawn_as s m.arrows v))
    is_model_lem = sym h ∙ rw q

    pub found_box : position < m.machine.sizes.boxes → BoxThere t position
    found_box g = box_there t is_model_lem position g

    pub found_place : {p : Place} → position < m.machine.sizes.boxes → p ≡ label_place t position → Ok p ≡ label_found t position
    unfolding label_found
    found_place g e = rw (is_model_lem, lt-ltb position m.machine.sizes.boxes g, e)

    pub found_none : m.machine.sizes.boxes ≤ position → Err (refused_as why.Range 0) ≡ label_found t position
    unfolding label_found
    found_none g = rw (is_model_lem, le-ltb position m.machine.sizes.boxes g)

-- the third field of a line that has three stands from its start to the line's end
third_is : (l : List ℕ) → length (rest l) ≡ 2 → get_or (rest l) 1 [] ≡ drop (third_field l) l
third_is l h =
    let e : rest l ≡ field_from l (end_of 9 l 0 + 1) ∷ fields_at l (third_field l) = sym (rest_from l (end_of 9 l 0) refl) ∙ fields_next l (end_of 9 l 0 + 1) (second_within l h) in
    let f : fields_at l (third_field l) ≡ field_from l (third_field l) ∷ fields_at l (end_of 9 l (third_field l) + 1) = fields_next l (third_field l) (third_within l h) in
    let n : length (fields_at l (end_of 9 l (third_field l) + 1)) ≡ 0 = omega (arith, ap length e, ap length f) in
    rw (e, f) (go (dec_lt (end_of 9 l (third_field l)) (length l)) n)
  where
    go : Dec (end_of 9 l (third_field l) < length l) → length (fields_at l (end_of 9 l (third_field l) + 1)) ≡ 0 → field_from l (third_field l) ≡ drop (third_field l) l
    go (yes g) n = absurd (omega (arith, ap length (fields_next l (end_of 9 l (third_field l) + 1) (omega arith))))
    go (no g) n = take_all (before 9 (drop (third_field l) l)) (drop (third_field l) l) (omega (arith, length-drop (third_field l) l))

drop_take : (k m : ℕ) (xs : List ℕ) → take (m - k) (drop k xs) ≡ drop k (take m xs)
drop_take zero m xs = rw sub-zero
drop_take (suc k) zero xs = rw zero-sub
drop_take (suc k) (suc m) [] = rw (suc-sub-suc, take-nil)
drop_take (suc k) (suc m) (x ∷ xs) = rw suc-sub-suc (drop_take k m xs)

part_of : (t : List ℕ) (at end k : ℕ) → take (end - (at + k)) (drop (at + k) t) ≡ drop k (take (end - at) (drop at t))
part_of t at end k =
    let m : end - (at + k) ≡ (end - at) - k = omega arith in
    rw (m, ← drop-drop k at t) (drop_take k (end - at) (drop at t))

-- the label that is found is the third field of the position's `box` line, and a good label
pub record LabelIs (t : List ℕ) (position : ℕ) : Type 0 where
  pub bytes : List ℕ
  pub start : ℕ
  pub is : label t position ≡ Ok (labelled bytes start)
  pub third : bytes ≡ get_or (rest (get_or (lines t) (position + 1) [])) 1 []
  pub good : label_good bytes ≡ true

pub label_is : (t : List ℕ) {z : Sizes} {p : Parts} → sheet_text t ≡ model z p → (position : ℕ) → position < z.boxes → LabelIs t position
unfolding label_found
label_is t {z} h position g =
    let w = box_there t h position g in
    let bytes : take (end_of 10 t (box_start t position) - (box_start t position + third_field (line_at t (box_start t position)))) (drop (box_start t position + third_field (line_at t (box_start t position))) t) ≡ drop (third_field (line_at t (box_start t position))) (line_at t (box_start t position)) = part_of t (box_start t position) (end_of 10 t (box_start t position)) (third_field (line_at t (box_start t position))) in
    let third : drop (third_field (line_at t (box_start t position))) (line_at t (box_start t position)) ≡ get_or (rest (line_at t (box_start t position))) 1 [] = sym (third_is (line_at t (box_start t position)) w.is.three) in
    record {
      bytes = drop (third_field (line_at t (box_start t position))) (line_at t (box_start t position));
      start = box_start t position + third_field (line_at t (box_start t position));
      is = rw (h, lt-ltb position z.boxes g, bytes);
      third = third ∙ ap (λ (l : List ℕ). get_or (rest l) 1 []) (line_there w.closed (position + 1) w.there);
      good = ap (λ (l : List ℕ). label_good l) third ∙ w.is.label;
    }
