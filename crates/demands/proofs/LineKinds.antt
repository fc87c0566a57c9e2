-- Each kind of line is good exactly where it is printed from what keeps to its rules.
-- Assumes nothing.
use Rattle.std.specs.Prelude.{Ok, Err, Option, Some, None}
use Rattle.model.specs.declared.refusal.Refusal.TheVariants as why
use mathlib.Core.Path.{sym, ◌≡◌, refl, ap, ap₂, ◌∙◌}
use mathlib.Core.Bool.{Bool, true, false, cond, ◌&&◌}
use mathlib.Core.List.{List, [], ◌∷◌}
use Prim.Native.Nat.{ℕ, ◌/◌, ◌%◌, ◌<◌, ◌≤◌}
use native.Mathlib.Omega.{arith}
use lib.Dec.{eqb, ltb, leb}
use lib.ListN.{length, get_or}
use borrow.Author.Tests.{eq-eqb, eqb-true, lt-ltb, ltb-true, le-leb, leb-true}
use Rattle.laws.specs.Choice.{both}
use Rattle.model.specs.Limits.{STATES, ACTIONS, BOXES, LABEL_BYTES, LARGEST_ID, LARGEST_NUMBER}
use Rattle.model.specs.Made.{sizes_from}
use Rattle.model.specs.Good.{GoodSizes}
use Rattle.text.specs.Number.{number, decimal}
use Rattle.text.specs.Lines.{same}
use Rattle.text.proofs.Digits.{read_decimal, number_limit}
use Rattle.text.proofs.Parts.{same_is}
use Rattle.sheet.specs.declared.Arrows.TheVariants as flow
use Rattle.sheet.specs.Words as words
use Rattle.sheet.specs.Numbers.{Record, said, on_record, word, rest, record_of}
use Rattle.sheet.specs.Records.{Flow, sized, position, known, plain, label_good, sheet_limits, act_limits, go_limits, arrow_limits, view_limits, sheet_line, box_of, box_line, act_line, go_line, arrow_line, flow_line, view_line}
use Rattle.sheet.proofs.Good.{same_numbers, passed, kept_out, made, both_true}
use Rattle.demands.specs.Printed as paper
use Rattle.demands.specs.Printed.{Row, Box, Step, Drawn, Known, Arrow, box_row, act_row, go_row, arrow_row, view_row}
use Rattle.demands.proofs.Rows.{Plain, PlainRow, glue, decimal_plain, fields_back}
use Rattle.demands.proofs.Bytes.{is_plain, plain_of}
use Rattle.demands.proofs.Canonical.{number_is}
use Rattle.demands.proofs.Records.{decimals, set_all, record_print, record_back, line_is, same_self}

-- every limit fits 32 bits
fits : 65535 ≤ 4294967295
fits = omega arith

-- ---- `act`
pub act_print : (ids : List ℕ) (id : ℕ) → Known ids id → act_line ids (glue (act_row id)) ≡ said (position ids id) 0 0 0
unfolding act_line decimals set_all is_plain both
act_print ids id k =
    rw (record_print words.act act_limits (id ∷ []) (plain_of words.act refl) (fits, tt) (k.0, tt), k.1) refl

pub record Act (ids l : List ℕ) (a : ℕ) : Type 0 where
  pub id : ℕ
  pub good : Known ids id
  pub is : l ≡ glue (act_row id)
  pub at : a ≡ position ids id

pub act_back : (ids l : List ℕ) {a b c d : ℕ} → act_line ids l ≡ said a b c d → Act ids l a
unfolding act_line decimals
act_back ids l {a} h =
    let m = made (record_of words.act act_limits l) h in
    let p = passed (known ids m.x) why.UnknownId m.then in
    let r = record_back words.act act_limits l (fits, tt) (omega arith) m.is in
    let n = p.1 in
    record { id = m.x; good = (r.small.0, p.0); is = r.is; at = sym (same_numbers n).first }

-- ---- `go`
pub record Went (states actions k : ℕ) (x : Step) : Type 0 where
  pub state_small : k / actions ≤ LARGEST_NUMBER
  pub action_small : k % actions ≤ LARGEST_NUMBER
  pub next_small : x.next ≤ LARGEST_NUMBER
  pub next_in : x.next < states
  pub output_small : x.output ≤ LARGEST_NUMBER

pub go_print : (states actions k : ℕ) (x : Step) → Went states actions k x →
    go_line states (k / actions) (k % actions) (glue (go_row actions k x)) ≡ said (k / actions) (k % actions) x.next x.output
unfolding go_line decimals set_all is_plain both
go_print states actions k x g =
    rw (
      record_print words.go go_limits (k / actions ∷ k % actions ∷ x.next ∷ x.output ∷ []) (plain_of words.go refl)
          (fits, (fits, (fits, (fits, tt)))) (g.state_small, (g.action_small, (g.next_small, (g.output_small, tt)))),
      eq-eqb (k / actions) (k / actions) refl,
      eq-eqb (k % actions) (k % actions) refl,
      lt-ltb _ _ g.next_in,
    ) refl

pub record Go (states actions k : ℕ) (l : List ℕ) (c d : ℕ) : Type 0 where
  pub step : Step
  pub good : Went states actions k step
  pub is : l ≡ glue (go_row actions k step)
  pub next_is : c ≡ step.next
  pub output_is : d ≡ step.output

pub go_back : (states actions k : ℕ) (l : List ℕ) {a b c d : ℕ} → go_line states (k / actions) (k % actions) l ≡ said a b c d → Go states actions k l c d
unfolding go_line decimals
go_back states actions k l {a} {b} {c} {d} h =
    let m = made (record_of words.go go_limits l) h in
    let r = record_back words.go go_limits l (fits, (fits, (fits, (fits, tt)))) (omega arith) m.is in
    let p = passed (eqb m.x (k / actions) && eqb m.y (k % actions) && ltb m.z states) why.Order m.then in
    let q = both_true (eqb m.x (k / actions) && eqb m.y (k % actions)) (ltb m.z states) p.0 in
    let t = both_true (eqb m.x (k / actions)) (eqb m.y (k % actions)) q.0 in
    let e : m.x ≡ k / actions = eqb-true _ _ t.0 in
    let f : m.y ≡ k % actions = eqb-true _ _ t.1 in
    let n = p.1 in
    let w = r.small in
    record {
      step = record { next = m.z; output = m.w };
      good = record {
        state_small = rw (← e) w.0;
        action_small = rw (← f) w.1.0;
        next_small = w.1.1.0;
        next_in = ltb-true _ _ q.1;
        output_small = w.1.1.1.0;
      };
      is = r.is ∙ ap₂ (λ x y. glue (words.go ∷ decimal x ∷ decimal y ∷ decimal m.z ∷ decimal m.w ∷ [])) e f;
      next_is = sym (same_numbers n).third;
      output_is = sym (same_numbers n).fourth;
    }

-- ---- `view`
pub record Seen (ids : List ℕ) (states k class : ℕ) : Type 0 where
  pub id_small : get_or ids (k / states) 0 ≤ LARGEST_ID
  pub state_small : k % states ≤ LARGEST_NUMBER
  pub class_small : class ≤ LARGEST_NUMBER

pub view_print : (ids : List ℕ) (states k class : ℕ) → Seen ids states k class →
    view_line (get_or ids (k / states) 0) (k % states) (glue (view_row ids states k class)) ≡ said (get_or ids (k / states) 0) (k % states) class 0
unfolding view_line decimals set_all is_plain both
view_print ids states k class g =
    rw (
      record_print words.view view_limits (get_or ids (k / states) 0 ∷ k % states ∷ class ∷ []) (plain_of words.view refl)
          (fits, (fits, (fits, tt))) (g.id_small, (g.state_small, (g.class_small, tt))),
      eq-eqb (get_or ids (k / states) 0) (get_or ids (k / states) 0) refl,
      eq-eqb (k % states) (k % states) refl,
    ) refl

pub record View (ids : List ℕ) (states k : ℕ) (l : List ℕ) (class : ℕ) : Type 0 where
  pub good : Seen ids states k class
  pub is : l ≡ glue (view_row ids states k class)

pub view_back : (ids : List ℕ) (states k : ℕ) (l : List ℕ) {a b c d : ℕ} →
    view_line (get_or ids (k / states) 0) (k % states) l ≡ said a b c d → View ids states k l c
unfolding view_line decimals
view_back ids states k l {a} {b} {c} {d} h =
    let m = made (record_of words.view view_limits l) h in
    let r = record_back words.view view_limits l (fits, (fits, (fits, tt))) (omega arith) m.is in
    let p = passed (eqb m.x (get_or ids (k / states) 0)) why.UnknownId m.then in
    let q = passed (eqb m.y (k % states)) why.Order p.1 in
    let e : m.x ≡ get_or ids (k / states) 0 = eqb-true _ _ p.0 in
    let f : m.y ≡ k % states = eqb-true _ _ q.0 in
    let n = q.1 in
    let z : m.z ≡ c = (same_numbers n).third in
    let w = r.small in
    record {
      good = record { id_small = rw (← e) w.0; state_small = rw (← f) w.1.0; class_small = rw (← z) w.1.1.0 };
      is = r.is ∙ ap₂ (λ x y. glue (words.view ∷ decimal x ∷ decimal y ∷ decimal m.z ∷ [])) e f ∙ ap (λ v. glue (view_row ids states k v)) z;
    }

-- ---- `box`
plain_label : (l : List ℕ) → plain l ≡ true → Plain l
unfolding plain
plain_label [] e = tt
plain_label (x ∷ xs) e =
    let p = both_true (leb 32 x && leb x 126) (plain xs) e in
    let q = both_true (leb 32 x) (leb x 126) p.0 in
    let h = leb-true 32 x q.0 in
    (omega arith, plain_label xs p.1)

label_plain : (l : List ℕ) → label_good l ≡ true → Plain l
label_plain l e = plain_label l (both_true (sized LABEL_BYTES (length l)) (plain l) e).1

abbrev pub BoxFits : List ℕ → Box → Type 0
BoxFits before x = (x.id ≤ LARGEST_ID) × (known before x.id ≡ false) × (label_good x.label ≡ true)

pub box_plain : (x : Box) → label_good x.label ≡ true → PlainRow (box_row x)
unfolding is_plain both
box_plain x h = (plain_of words.box refl, (decimal_plain x.id, label_plain x.label h))

pub box_print : (before : List ℕ) (x : Box) → BoxFits before x → box_line before (glue (box_row x)) ≡ said x.id 0 0 0
unfolding box_line
box_print before x g =
    let i = g.0 in
    rw (fields_back (box_row x) (box_plain x g.2), same_self words.box, read_decimal LARGEST_ID x.id g.0 (omega arith), g.1, g.2) refl

pub record Boxed (before l : List ℕ) (a : ℕ) : Type 0 where
  pub x : Box
  pub good : BoxFits before x
  pub is : l ≡ glue (box_row x)
  pub at : a ≡ x.id

two_fields : (fs : Row) → length fs ≡ 2 → fs ≡ get_or fs 0 [] ∷ get_or fs 1 [] ∷ []
two_fields [] e = absurd (omega arith)
two_fields (f ∷ []) e = absurd (omega arith)
two_fields (f ∷ g ∷ []) e = refl
two_fields (f ∷ g ∷ h ∷ fs) e = absurd (omega arith)

pub box_back : (before l : List ℕ) {a b c d : ℕ} → box_line before l ≡ said a b c d → Boxed before l a
unfolding box_line
box_back before l {a} {b} {c} {d} h =
    let p = passed (same (word l) words.box) why.Record h in
    let q = passed (eqb (length (rest l)) 2) why.Fields p.1 in
    go (number LARGEST_ID (get_or (rest l) 0 [])) refl q.1 (same_is (word l) words.box p.0) (two_fields (rest l) (eqb-true _ _ q.0))
  where
    go : (n : Option ℕ) → number LARGEST_ID (get_or (rest l) 0 []) ≡ n → box_of before n (get_or (rest l) 1 []) ≡ said a b c d →
        word l ≡ words.box → rest l ≡ get_or (rest l) 0 [] ∷ get_or (rest l) 1 [] ∷ [] → Boxed before l a
    go None q h w r = let z : ◌≡◌ {A = ℕ} 0 1 = cc in absurd (omega arith)
    go (Some id) q h w r =
        let s = kept_out (known before id) why.SameId h in
        let t = passed (label_good (get_or (rest l) 1 [])) why.Label s.1 in
        let n = t.1 in
        record {
          x = record { id = id; label = get_or (rest l) 1 [] };
          good = (number_limit LARGEST_ID (get_or (rest l) 0 []) id q, s.0, t.0);
          is = line_is l ∙ ap₂ (λ f fs. glue (f ∷ fs)) w (r ∙ ap (λ f. f ∷ get_or (rest l) 1 [] ∷ []) (number_is LARGEST_ID id (get_or (rest l) 0 []) (omega arith) q));
          at = sym (same_numbers n).first;
        }

-- ---- `sheet`
abbrev pub sizes_row : ℕ → ℕ → ℕ → ℕ → Row
sizes_row states actions boxes start = words.sheet ∷ decimal states ∷ decimal actions ∷ decimal boxes ∷ decimal start ∷ []

sized_in : (most n : ℕ) → 0 < n → n ≤ most → sized most n ≡ true
sized_in most n p l = rw (lt-ltb 0 n p, le-leb n most l) refl

pub sheet_print : (states actions boxes start : ℕ) → GoodSizes (sizes_from states actions boxes start) → sheet_line (glue (sizes_row states actions boxes start)) ≡ said states actions boxes start
unfolding sheet_line decimals set_all is_plain both
sheet_print states actions boxes start g =
    let a = g.states_most in let b = g.actions_most in let c = g.boxes_most in let d = g.start_in in
    rw (
      record_print words.sheet sheet_limits (states ∷ actions ∷ boxes ∷ start ∷ []) (plain_of words.sheet refl)
          (fits, (fits, (fits, (fits, tt)))) (omega arith, (omega arith, (omega arith, (omega arith, tt)))),
      sized_in STATES states g.states_some a,
      sized_in ACTIONS actions g.actions_some b,
      sized_in BOXES boxes g.boxes_some c,
      lt-ltb start states d,
    ) refl

pub sheet_back : (l : List ℕ) {a b c d : ℕ} → sheet_line l ≡ said a b c d → l ≡ glue (sizes_row a b c d)
unfolding sheet_line decimals
sheet_back l {a} {b} {c} {d} h =
    let m = made (record_of words.sheet sheet_limits l) h in
    let r = record_back words.sheet sheet_limits l (fits, (fits, (fits, (fits, tt)))) (omega arith) m.is in
    let p = passed (sized STATES m.x && sized ACTIONS m.y && sized BOXES m.z) why.Size m.then in
    let q = passed (ltb m.w m.x) why.Order p.1 in
    let n = q.1 in
    let e = (same_numbers n).first in let f = (same_numbers n).second in let g = (same_numbers n).third in let i = (same_numbers n).fourth in
    r.is ∙ ap (λ x. glue (sizes_row x m.y m.z m.w)) e ∙ ap (λ y. glue (sizes_row a y m.z m.w)) f
    ∙ ap (λ z. glue (sizes_row a b z m.w)) g ∙ ap (λ w. glue (sizes_row a b c w)) i

-- ---- `flow` and `both`
arrow_print : (w ids : List ℕ) (i j : ℕ) → Plain w → Known ids i → Known ids j →
    arrow_line w ids (glue (w ∷ decimal i ∷ decimal j ∷ [])) ≡ said (position ids i) (position ids j) 0 0
unfolding arrow_line decimals set_all
arrow_print w ids i j p hi hj = rw (record_print w arrow_limits (i ∷ j ∷ []) p (fits, (fits, tt)) (hi.0, (hj.0, tt)), hi.1, hj.1) refl

record Ends (w ids l : List ℕ) (a b : ℕ) : Type 0 where
  i : ℕ
  j : ℕ
  i_known : Known ids i
  j_known : Known ids j
  is : l ≡ glue (w ∷ decimal i ∷ decimal j ∷ [])
  from : a ≡ position ids i
  to : b ≡ position ids j

arrow_back : (w ids l : List ℕ) {a b c d : ℕ} → arrow_line w ids l ≡ said a b c d → Ends w ids l a b
unfolding arrow_line decimals
arrow_back w ids l {a} {b} {c} {d} h =
    let m = made (record_of w arrow_limits l) h in
    let r = record_back w arrow_limits l (fits, (fits, tt)) (omega arith) m.is in
    let p = passed (known ids m.x && known ids m.y) why.UnknownId m.then in
    let q = both_true (known ids m.x) (known ids m.y) p.0 in
    let n = p.1 in
    record { i = m.x; j = m.y; i_known = (r.small.0, q.0); j_known = (r.small.1.0, q.1); is = r.is; from = sym (same_numbers n).first; to = sym (same_numbers n).second }

-- what an arrow makes of a line
abbrev pub as_flow : List ℕ → Drawn → Flow
as_flow ids (paper.flow i j) = Ok (Some (flow.One (position ids i) (position ids j)))
as_flow ids (paper.both i j) = Ok (Some (flow.Two (position ids i) (position ids j)))

first_word : (w : List ℕ) (r : Row) → PlainRow (w ∷ r) → word (glue (w ∷ r)) ≡ w
first_word w r p = ap (λ fs. get_or fs 0 []) (fields_back (w ∷ r) p)

pub arrow_plain : (x : Drawn) → PlainRow (arrow_row x)
unfolding is_plain both
arrow_plain (paper.flow i j) = (plain_of words.flow refl, (decimal_plain i, decimal_plain j))
arrow_plain (paper.both i j) = (plain_of words.both refl, (decimal_plain i, decimal_plain j))

pub flow_print : (ids : List ℕ) (x : Drawn) → Arrow ids x → flow_line ids (glue (arrow_row x)) ≡ as_flow ids x
unfolding flow_line is_plain both same
flow_print ids (paper.flow i j) h =
    rw (first_word words.flow _ (arrow_plain (paper.flow i j)), arrow_print words.flow ids i j (plain_of words.flow refl) h.0 h.1) refl
flow_print ids (paper.both i j) h =
    rw (first_word words.both _ (arrow_plain (paper.both i j)), arrow_print words.both ids i j (plain_of words.both refl) h.0 h.1) refl

pub view_plain : (ids : List ℕ) (states k class : ℕ) → PlainRow (view_row ids states k class)
unfolding is_plain both
view_plain ids states k class = (plain_of words.view refl, (decimal_plain _, (decimal_plain _, decimal_plain class)))

pub flow_other : (ids js : List ℕ) (states k class : ℕ) → flow_line ids (glue (view_row js states k class)) ≡ Ok None
unfolding flow_line same
flow_other ids js states k class = rw (first_word words.view _ (view_plain js states k class)) refl

-- a line that draws something is printed from what it draws
pub record Draws (ids l : List ℕ) (r : Flow) : Type 0 where
  pub x : Drawn
  pub good : Arrow ids x
  pub is : l ≡ glue (arrow_row x)
  pub makes : r ≡ as_flow ids x

abbrev pub Drawing : List ℕ → List ℕ → Flow → Type 0
Drawing ids l (Ok (Some a)) = Draws ids l (Ok (Some a))
Drawing ids l (Ok None) = Unit {0}
Drawing ids l (Err e) = Unit {0}

pub flow_back : (ids l : List ℕ) → Drawing ids l (flow_line ids l)
unfolding flow_line
flow_back ids l = go (same (word l) words.flow) (same (word l) words.both) (arrow_line words.flow ids l) refl (arrow_line words.both ids l) refl
  where
    go : (s t : Bool) (r : Record) → arrow_line words.flow ids l ≡ r → (q : Record) → arrow_line words.both ids l ≡ q →
        Drawing ids l (cond s (on_record r (λ from to _ _. Ok (Some (flow.One from to))) Err) (cond t (on_record q (λ from to _ _. Ok (Some (flow.Two from to))) Err) (Ok None)))
    go true t (Ok ns) e q f =
        let x = arrow_back words.flow ids l e in
        record { x = paper.flow x.i x.j; good = (x.i_known, x.j_known); is = x.is; makes = ap₂ (λ v u. Ok (Some (flow.One v u))) x.from x.to }
    go true t (Err n) e q f = tt
    go false true r e (Ok ns) f =
        let x = arrow_back words.both ids l f in
        record { x = paper.both x.i x.j; good = (x.i_known, x.j_known); is = x.is; makes = ap₂ (λ v u. Ok (Some (flow.Two v u))) x.from x.to }
    go false true r e (Err n) f = tt
    go false false r e q f = tt
