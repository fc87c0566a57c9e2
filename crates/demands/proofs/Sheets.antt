-- A text isn't refused exactly where it is printed from a sheet that keeps to the rules.
-- Assumes nothing.
use Rattle.sheet.specs.Numbers.{Record}
use Rattle.model.specs.declared.refusal.Refusal.{Refusal}
use mathlib.Core.Path.{◌≡◌, refl, sym, ap, ◌∙◌}
use mathlib.Core.Logic.{◌↔◌}
use mathlib.Core.Bool.{true}
use mathlib.Core.List.{List, [], ◌∷◌, ◌++◌, append-nil}
use Prim.Native.Nat.{ℕ, zero, suc, ◌+◌, ◌-◌, ◌*◌, ◌/◌, ◌%◌, ◌<◌, ◌≤◌}
use native.Mathlib.Omega.{arith}
use native.Mathlib.Nat.{div-le_self, mod-le, mul-le-mul}
use lib.ListN.{length, get_or, take, replicate, length-replicate}
use borrow.Author.Tests.{eq-eqb, lt-ltb, le-leb}
use Rattle.model.specs.Limits.{BOXES, ACTIONS, VIEW_ENTRIES, SHEET_BYTES, LARGEST_ID, LARGEST_NUMBER, STATES}
use Rattle.model.specs.Good.{GoodSizes}
use Rattle.text.specs.Lines.{lines}
use Rattle.sheet.specs.Records.{position}
use Rattle.sheet.specs.Phases as phases
use Rattle.model.specs.Arrows.{selves}
use Rattle.sheet.specs.Phases.{Got, got, Steps, steps, boxes, acts, goes, flows, views}
use Rattle.sheet.specs.Reading.{drawn_as, drawing, Parts, parts_as, parts, Reading, model, refusal, sheet_lines, zeros, sheet_text}
use Rattle.sheet.specs.Words as words
use Rattle.sheet.specs.Meaning.{RefusedText}
use Rattle.sheet.proofs.Table.{refused_means, means_refused}
use Rattle.laws.specs.Choice.{both}
use Rattle.demands.specs.Meant.{sizes_of}
use Rattle.demands.specs.Printed as paper
use Rattle.demands.specs.Printed.{Row, Box, Step, Paper, Good, Each, Boxes, Known, Arrow, ids_of, box_row, act_row, go_row, arrow_row, view_row, rows_from, rows_of, print, PrintedFrom}
use Rattle.demands.proofs.Rows.{PlainRow, PlainRows, glue, decimal_plain}
use Rattle.demands.proofs.Bytes.{is_plain, plain_of}
use Rattle.demands.proofs.Phases.{glues, Follow, nexts, Printed, phase_print}
use Rattle.demands.proofs.LineKinds.{box_plain, arrow_plain, view_plain, sheet_print, box_print, act_print, Went, go_print, Seen, view_print, flow_other}
use Rattle.demands.proofs.Texts.{text_unlines, printed_lines, unlines_some, unlines_last}
use Rattle.demands.proofs.Printing.{draw_all, flows_print, boxes_line, store_box, next_box, BoxAt, boxes_end, follow_boxes, ids_are}
use Rattle.demands.proofs.ReadBack.{acts_line, store_act, next_act, ActAt, goes_line, store_go, next_go, GoAt, views_line, store_view, next_view, ViewAt, ids_length, all_glues, no_model, empty_steps, fitting, model_printed}

-- ---- what is printed from a good sheet isn't refused
-- the rules of each place, from those of its item
follow_of : {S A : Type 0} (line : ℕ → S → List ℕ → Record) (store : ℕ → S → ℕ → ℕ → ℕ → ℕ → S) (row : ℕ → A → Row) (next : ℕ → S → A → S) (P : ℕ → S → A → Type 0) (Q : A → Type 0) (n : ℕ) →
    ((k : ℕ) (s : S) (x : A) → k < n → Q x → P k s x) → (k : ℕ) (s : S) (xs : List A) → k + length xs ≤ n → Each Q xs → Follow line store row next P k s xs
follow_of line store row next P Q n f k s [] l h = tt
follow_of line store row next P Q n f k s (x ∷ xs) l h = (f k s x (omega arith) h.0, follow_of line store row next P Q n f (suc k) (next k s x) xs (omega arith) h.1)

box_printed : (k : ℕ) (s : List ℕ) (x : Box) → BoxAt k s x → Printed boxes_line store_box (λ _. box_row) next_box BoxAt k s x
box_printed k s x g = record { a = x.id; b = 0; c = 0; d = 0; says = box_print (take k s) x g; stored = refl }

act_printed : (ids : List ℕ) (k : ℕ) (s : List ℕ) (x : ℕ) → ActAt ids k s x → Printed (acts_line ids) (store_act ids) (λ _. act_row) (next_act ids) (ActAt ids) k s x
act_printed ids k s x g = record { a = position ids x; b = 0; c = 0; d = 0; says = act_print ids x g; stored = refl }

go_printed : (states actions k : ℕ) (s : Steps) (x : Step) → GoAt states actions k s x →
    Printed (goes_line states actions) (store_go states actions) (go_row actions) (next_go states actions) (GoAt states actions) k s x
go_printed states actions k s x g = record { a = k / actions; b = k % actions; c = x.next; d = x.output; says = go_print states actions k x g; stored = refl }

view_printed : (ids : List ℕ) (states k : ℕ) (s : List ℕ) (x : ℕ) → ViewAt ids states k s x →
    Printed (views_line ids states) (store_view ids states) (view_row ids states) (next_view ids states) (ViewAt ids states) k s x
view_printed ids states k s x g = record { a = get_or ids (k / states) 0; b = k % states; c = x; d = 0; says = view_print ids states k x g; stored = refl }

record Reads {S : Type 0} (g : Got S) (s : S) (left : List (List ℕ)) : Type 0 where
  at : ℕ
  is : g ≡ got s left at

-- as many lines as there are items
counted : {S A : Type 0} (line : ℕ → S → List ℕ → Record) (store : ℕ → S → ℕ → ℕ → ℕ → ℕ → S) (row : ℕ → A → Row) (next : ℕ → S → A → S) (P : ℕ → S → A → Type 0) →
    ((k : ℕ) (s : S) (x : A) → P k s x → Printed line store row next P k s x) → (xs : List A) (many : ℕ) → length xs ≡ many → (s : S) (left : List (List ℕ)) (n : ℕ) →
    Follow line store row next P 0 s xs → Reads (phases.phase line store many 0 s (glues (rows_from row 0 xs) ++ left) n) (nexts line store row next P 0 s xs) left
counted line store row next P f xs many e s left n h =
    let r = phase_print line store row next P f xs 0 s left n h in
    record { at = r.0; is = ap (λ k. phases.phase line store k 0 s (glues (rows_from row 0 xs) ++ left) n) (sym e) ∙ r.1 }

ids_small : (before : List ℕ) (bs : List Box) → Boxes before bs → (i : ℕ) → get_or (ids_of bs) i 0 ≤ LARGEST_ID
unfolding ids_of
ids_small before [] h i = omega arith
ids_small before (b ∷ bs) h zero = h.0.0
ids_small before (b ∷ bs) h (suc i) = ids_small (before ++ (b.id ∷ [])) bs h.1 i

plain_append : (rs qs : List Row) → PlainRows rs → PlainRows qs → PlainRows (rs ++ qs)
plain_append [] qs h k = k
plain_append (r ∷ rs) qs h k = (h.0, plain_append rs qs h.1 k)

plain_from : {A : Type 0} (row : ℕ → A → Row) → ((k : ℕ) (x : A) → PlainRow (row k x)) → (k : ℕ) (xs : List A) → PlainRows (rows_from row k xs)
unfolding rows_from
plain_from row f k [] = tt
plain_from row f k (x ∷ xs) = (f k x, plain_from row f (suc k) xs)

boxes_plain : (k : ℕ) (before : List ℕ) (bs : List Box) → Boxes before bs → PlainRows (rows_from (λ _. box_row) k bs)
unfolding rows_from
boxes_plain k before [] h = tt
boxes_plain k before (b ∷ bs) h = (box_plain b h.0.2, boxes_plain (suc k) (before ++ (b.id ∷ [])) bs h.1)

view_ends : (ids : List ℕ) (states : ℕ) (xs : List paper.Drawn) (arrows : List ℕ) (c : ℕ) (cs : List ℕ) (n : ℕ) → Each (Arrow ids) xs →
    Reads (flows ids arrows (glues (rows_from (λ _. arrow_row) 0 xs) ++ (glues (rows_from (view_row ids states) 0 (c ∷ cs)) ++ [])) n) (draw_all ids arrows xs) (glues (rows_from (view_row ids states) 0 (c ∷ cs)) ++ [])
unfolding glues rows_from
view_ends ids states xs arrows c cs n h =
    let f = flows_print ids 0 xs arrows (glue (view_row ids states 0 c)) (glues (rows_from (view_row ids states) 1 cs) ++ []) n h (flow_other ids ids states 0 c) in
    record { at = f.0; is = f.1 }

module _ (p : Paper) (g : Good p) where
  abbrev pub ids : List ℕ
  ids = ids_of p.boxes

  steps_few : p.states * p.actions ≤ STATES * ACTIONS
  steps_few = mul-le-mul g.states_in.1 g.actions_in.1

  classes_few : length p.boxes * p.states ≤ BOXES * STATES
  classes_few = mul-le-mul g.boxes_in.1 g.states_in.1

  went : (k : ℕ) (s : Steps) (x : Step) → k < p.states * p.actions → (x.next < p.states) × (x.output ≤ LARGEST_NUMBER) → Went p.states p.actions k x
  went k s x l h =
      let d = div-le_self k p.actions in let m = mod-le k p.actions in let f = steps_few in let b = g.states_in.1 in let n = h.0 in
      record { state_small = omega arith; action_small = omega arith; next_small = omega arith; next_in = h.0; output_small = h.1 }

  seen : (k : ℕ) (s : List ℕ) (x : ℕ) → k < length p.boxes * p.states → x ≤ LARGEST_NUMBER → Seen ids p.states k x
  seen k s x l h =
      let m = mod-le k p.states in let f = classes_few in
      record { id_small = ids_small [] p.boxes g.boxes (k / p.states); state_small = omega arith; class_small = h }

  boxes_read : (left : List (List ℕ)) (n : ℕ) → (m : ℕ) × (boxes (length p.boxes) (glues (rows_from (λ _. box_row) 0 p.boxes) ++ left) n ≡ got (boxes_end 0 (replicate BOXES 0) p.boxes) left m)
  boxes_read left n =
      phase_print boxes_line store_box (λ _. box_row) next_box BoxAt box_printed p.boxes 0 (replicate BOXES 0) left n
      (follow_boxes 0 (replicate BOXES 0) p.boxes room g.boxes)
    where
      room : 0 + length p.boxes ≤ length (replicate {A = ℕ} BOXES 0)
      room = let r = length-replicate {A = ℕ} BOXES 0 in let b = g.boxes_in.1 in omega arith

  taken : take (length p.boxes) (boxes_end 0 (replicate BOXES 0) p.boxes) ≡ ids
  taken =
      let r = length-replicate {A = ℕ} BOXES 0 in let b = g.boxes_in.1 in
      let e : length p.boxes ≡ 0 + length p.boxes = omega arith in
      ap (λ n. take n (boxes_end 0 (replicate BOXES 0) p.boxes)) e ∙ ids_are 0 (replicate BOXES 0) p.boxes (omega arith)

  -- what the reader has after each run of lines
  abbrev pub acts_end : List ℕ
  acts_end = nexts (acts_line ids) (store_act ids) (λ _. act_row) (next_act ids) (ActAt ids) 0 (replicate ACTIONS 0) p.acts

  abbrev pub goes_end : Steps → Steps
  goes_end table = nexts (goes_line p.states p.actions) (store_go p.states p.actions) (go_row p.actions) (next_go p.states p.actions) (GoAt p.states p.actions) 0 table p.steps

  abbrev pub views_end : List ℕ → List ℕ
  views_end classes = nexts (views_line ids p.states) (store_view ids p.states) (view_row ids p.states) (next_view ids p.states) (ViewAt ids p.states) 0 classes p.classes

  abbrev pub flows_end : List ℕ
  flows_end = draw_all ids (selves (length ids) (replicate BOXES 0)) p.arrows

  abbrev pub parts_end : Steps → List ℕ → Parts
  parts_end table classes = parts_as (boxes_end 0 (replicate BOXES 0) p.boxes) acts_end (drawn_as (goes_end table) flows_end (views_end classes))

  acts_read : (left : List (List ℕ)) (n : ℕ) → Reads (acts ids p.actions (glues (rows_from (λ _. act_row) 0 p.acts) ++ left) n) acts_end left
  acts_read left n =
      counted (acts_line ids) (store_act ids) (λ _. act_row) (next_act ids) (ActAt ids) (act_printed ids) p.acts p.actions g.acts_many (replicate ACTIONS 0) left n
      (follow_of (acts_line ids) (store_act ids) (λ _. act_row) (next_act ids) (ActAt ids) (Known ids) (length p.acts) (λ k s x l h. h) 0 (replicate ACTIONS 0) p.acts (omega arith) g.acts)

  goes_read : (table : Steps) (left : List (List ℕ)) (n : ℕ) → Reads (goes p.states p.actions table (glues (rows_from (go_row p.actions) 0 p.steps) ++ left) n) (goes_end table) left
  goes_read table left n =
      counted (goes_line p.states p.actions) (store_go p.states p.actions) (go_row p.actions) (next_go p.states p.actions) (GoAt p.states p.actions)
      (go_printed p.states p.actions) p.steps (p.states * p.actions) g.steps_many table left n
      (follow_of (goes_line p.states p.actions) (store_go p.states p.actions) (go_row p.actions) (next_go p.states p.actions) (GoAt p.states p.actions)
      (λ x. (x.next < p.states) × (x.output ≤ LARGEST_NUMBER)) (p.states * p.actions) went 0 table p.steps (let e = g.steps_many in omega arith) g.steps)

  many_classes : length p.classes ≡ length ids * p.states
  many_classes = g.classes_many ∙ ap (λ n. n * p.states) (sym (ids_length p.boxes))

  views_read : (classes : List ℕ) (n : ℕ) → Reads (views ids p.states classes (glues (rows_from (view_row ids p.states) 0 p.classes) ++ []) n) (views_end classes) []
  views_read classes n =
      counted (views_line ids p.states) (store_view ids p.states) (view_row ids p.states) (next_view ids p.states) (ViewAt ids p.states)
      (view_printed ids p.states) p.classes (length ids * p.states) many_classes classes [] n
      (follow_of (views_line ids p.states) (store_view ids p.states) (view_row ids p.states) (next_view ids p.states) (ViewAt ids p.states)
      (λ c. c ≤ LARGEST_NUMBER) (length p.boxes * p.states) seen 0 classes p.classes (let e = g.classes_many in omega arith) g.classes)

  abbrev pub arrow_lines : List (List ℕ)
  arrow_lines = glues (rows_from (λ _. arrow_row) 0 p.arrows)

  abbrev pub view_lines : List (List ℕ)
  view_lines = glues (rows_from (view_row ids p.states) 0 p.classes) ++ []

  -- there is a view, and it ends the arrows
  flows_read : (arrows : List ℕ) (n : ℕ) → Reads (flows ids arrows (arrow_lines ++ view_lines) n) (draw_all ids arrows p.arrows) view_lines
  flows_read arrows n = go p.classes g.classes_many
    where
      go : (cs : List ℕ) → length cs ≡ length p.boxes * p.states →
          Reads (flows ids arrows (arrow_lines ++ (glues (rows_from (view_row ids p.states) 0 cs) ++ [])) n) (draw_all ids arrows p.arrows) (glues (rows_from (view_row ids p.states) 0 cs) ++ [])
      go [] e = let m = mul-le-mul g.boxes_in.0 g.states_in.0 in absurd (omega arith)
      go (c ∷ cs) e = view_ends ids p.states p.arrows arrows c cs n g.arrows

  drawing_read : (table : Steps) (classes : List ℕ) (n : ℕ) →
      Reads (drawing p.states p.actions ids table classes (glues (rows_from (go_row p.actions) 0 p.steps) ++ (arrow_lines ++ view_lines)) n) (drawn_as (goes_end table) flows_end (views_end classes)) []
  unfolding drawing
  drawing_read table classes n =
      let a = goes_read table (arrow_lines ++ view_lines) n in
      let b = flows_read (selves (length ids) (replicate BOXES 0)) a.at in
      let c = views_read classes b.at in
      record { at = c.at; is = rw (a.is, b.is, c.is) refl }

  parts_read : (table : Steps) (classes : List ℕ) (n : ℕ) →
      Reads (parts p.states p.actions (length p.boxes) table classes
      (glues (rows_from (λ _. box_row) 0 p.boxes) ++ (glues (rows_from (λ _. act_row) 0 p.acts) ++ (glues (rows_from (go_row p.actions) 0 p.steps) ++ (arrow_lines ++ view_lines)))) n) (parts_end table classes) []
  unfolding parts
  parts_read table classes n =
      let a = boxes_read (glues (rows_from (λ _. act_row) 0 p.acts) ++ (glues (rows_from (go_row p.actions) 0 p.steps) ++ (arrow_lines ++ view_lines))) n in
      let b = acts_read (glues (rows_from (go_row p.actions) 0 p.steps) ++ (arrow_lines ++ view_lines)) a.0 in
      let c = drawing_read table classes b.at in
      record { at = c.at; is = rw (a.1, taken, b.is, c.is) refl }

  -- ---- every row is plain
  pub plain : PlainRows (rows_of p)
  unfolding is_plain both
  plain = (
    (plain_of words.sheet refl, (decimal_plain _, (decimal_plain _, (decimal_plain _, decimal_plain _)))),
    plain_append (rows_from (λ _. box_row) 0 p.boxes) _ (boxes_plain 0 [] p.boxes g.boxes)
        (plain_append (rows_from (λ _. act_row) 0 p.acts) _ (plain_from (λ _. act_row) (λ k x. (plain_of words.act refl, decimal_plain x)) 0 p.acts)
        (plain_append (rows_from (go_row p.actions) 0 p.steps) _
        (plain_from (go_row p.actions) (λ k x. (plain_of words.go refl, (decimal_plain _, (decimal_plain _, (decimal_plain _, decimal_plain _))))) 0 p.steps)
        (plain_append (rows_from (λ _. arrow_row) 0 p.arrows) _ (plain_from (λ _. arrow_row) (λ k x. arrow_plain x) 0 p.arrows)
        (plain_from (view_row ids p.states) (λ k x. view_plain ids p.states k x) 0 p.classes)))),
  )

  pub printed : lines (print p) ≡ glue (paper.sheet_row p)
      ∷ (glues (rows_from (λ _. box_row) 0 p.boxes) ++ (glues (rows_from (λ _. act_row) 0 p.acts) ++ (glues (rows_from (go_row p.actions) 0 p.steps) ++ (arrow_lines ++ view_lines))))
  unfolding glues
  printed =
      printed_lines (rows_of p) plain
      ∙ ap (λ ls. glue (paper.sheet_row p) ∷ ls)
      (all_glues (rows_from (λ _. box_row) 0 p.boxes) (rows_from (λ _. act_row) 0 p.acts) (rows_from (go_row p.actions) 0 p.steps)
      (rows_from (λ _. arrow_row) 0 p.arrows) (rows_from (view_row ids p.states) 0 p.classes)
      ∙ ap (λ v. glues (rows_from (λ _. box_row) 0 p.boxes) ++ (glues (rows_from (λ _. act_row) 0 p.acts) ++ (glues (rows_from (go_row p.actions) 0 p.steps) ++ (arrow_lines ++ v))))
      (sym (append-nil (glues (rows_from (view_row ids p.states) 0 p.classes)))))

  fits : length (print p) ≤ SHEET_BYTES → fitting (print p) ≡ true
  unfolding glues
  fits l =
      let e = text_unlines (rows_of p) in
      let some : 0 < length (print p) = rw e (unlines_some (glue (paper.sheet_row p)) _) in
      let last : get_or (print p) (length (print p) - 1) 0 ≡ 10 = rw e (unlines_last (glue (paper.sheet_row p)) _) in
      rw (lt-ltb _ _ some, le-leb _ _ l, eq-eqb _ _ last) refl

  sizes : GoodSizes (sizes_of p)
  sizes = record {
    states_some = g.states_in.0;
    states_most = g.states_in.1;
    actions_some = g.actions_in.0;
    actions_most = g.actions_in.1;
    boxes_some = g.boxes_in.0;
    boxes_most = g.boxes_in.1;
    start_in = g.start_in;
  }

  pub printed_model : length (print p) ≤ SHEET_BYTES → sheet_text (print p) ≡ model (sizes_of p) (parts_end empty_steps (zeros VIEW_ENTRIES))
  unfolding sheet_text sheet_lines
  printed_model l =
      let r = parts_read empty_steps (zeros VIEW_ENTRIES) 2 in
      rw (fits l, printed, sheet_print p.states p.actions (length p.boxes) p.start sizes, r.is) refl

-- ---- the theorem
pub unrefused↔printed : (t : List ℕ) → ((n : Refusal) (l : ℕ) → ¬ RefusedText t n l) ↔ PrintedFrom t
unrefused↔printed t = (
  λ h. to h (sheet_text t) refl,
  λ f n l r.
      let m = printed_model f.page f.good (rw f.is f.short) in
      no_model (sym (means_refused t n l r) ∙ ap sheet_text (sym f.is) ∙ m),
)
  where
    to : ((n : Refusal) (l : ℕ) → ¬ RefusedText t n l) → (rd : Reading) → sheet_text t ≡ rd → PrintedFrom t
    to h (refusal n l) e = absurd (h n l (refused_means t n l e))
    to h (model z p) e = model_printed t e
