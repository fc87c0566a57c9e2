-- Two sheets that keep to the rules and have the same print are the same sheet.
-- Assumes nothing.
use mathlib.Core.Path.{◌≡◌, refl, sym, ap, ap₂, ◌∙◌}
use mathlib.Core.List.{List, [], ◌∷◌, ◌++◌}
use Prim.Native.Nat.{ℕ, suc, ◌<◌, ◌≤◌}
use native.Mathlib.Omega.{arith}
use lib.ListN.{length, get_or, take, drop, length-append}
use lib.Seq.{take_at, drop_at}
use Rattle.model.specs.Limits.{LARGEST_ID, LARGEST_NUMBER}
use Rattle.text.specs.Number.{decimal}
use Rattle.demands.specs.Printed as paper
use Rattle.demands.specs.Printed.{Row, Box, Step, Drawn, Paper, Good, Each, Boxes, Known, Arrow, ids_of, box_row, act_row, go_row, arrow_row, view_row, rows_from, rows_of, print, PrintedFrom}
use Rattle.demands.proofs.Rows.{text_once, decimal_once}
use Rattle.demands.proofs.Sheets.{plain}

-- ---- lists
append_once : {A : Type 0} (a c b d : List A) → length a ≡ length c → a ++ b ≡ c ++ d → (a ≡ c) × (b ≡ d)
append_once a c b d l e = (
  sym (take_at a b (length a) refl) ∙ ap (take (length a)) e ∙ take_at c d (length a) (sym l),
  sym (drop_at a b (length a) refl) ∙ ap (drop (length a)) e ∙ drop_at c d (length a) (sym l),
)

each_of : {A : Type 0} (P Q : A → Type 0) → ((x : A) → P x → Q x) → (xs : List A) → Each P xs → Each Q xs
each_of P Q f [] h = tt
each_of P Q f (x ∷ xs) h = (f x h.0, each_of P Q f xs h.1)

rows_length : {A : Type 0} (row : ℕ → A → Row) (k : ℕ) (xs : List A) → length (rows_from row k xs) ≡ length xs
unfolding rows_from
rows_length row k [] = refl
rows_length row k (x ∷ xs) = ap suc (rows_length row (suc k) xs)

-- rows that say their item say their items
rows_once : {A : Type 0} (row : ℕ → A → Row) (Q : A → Type 0) → ((k : ℕ) (x y : A) → Q x → Q y → row k x ≡ row k y → x ≡ y) → (k : ℕ) (xs ys : List A) → Each Q xs → Each Q ys →
    rows_from row k xs ≡ rows_from row k ys → xs ≡ ys
unfolding rows_from
rows_once row Q f k [] [] h i e = refl
rows_once row Q f k [] (y ∷ ys) h i e = let z : ◌≡◌ {A = ℕ} 0 (suc (length (rows_from row (suc k) ys))) = ap length e in absurd (omega arith)
rows_once row Q f k (x ∷ xs) [] h i e = let z : suc (length (rows_from row (suc k) xs)) ≡ 0 = ap length e in absurd (omega arith)
rows_once row Q f k (x ∷ xs) (y ∷ ys) h i e =
    ap₂ (λ z zs. z ∷ zs) (f k x y h.0 i.0 (ap (λ (rs : List Row). get_or rs 0 []) e)) (rows_once row Q f (suc k) xs ys h.1 i.1 (ap (drop 1) e))

-- ---- each kind of row says its item
abbrev field : Row → ℕ → List ℕ
field r n = get_or r n []

number_once : (v w : ℕ) → v ≤ LARGEST_NUMBER → w ≤ LARGEST_NUMBER → decimal v ≡ decimal w → v ≡ w
number_once v w p q e = decimal_once v w (omega arith) (omega arith) e

abbrev SmallBox : Box → Type 0
SmallBox b = b.id ≤ LARGEST_ID

box_once : (x y : Box) → SmallBox x → SmallBox y → box_row x ≡ box_row y → x ≡ y
box_once x y p q e =
    let i : x.id ≡ y.id = number_once x.id y.id p q (ap (λ r. field r 1) e) in
    let l : x.label ≡ y.label = ap (λ r. field r 2) e in
    ap₂ {C = Box} (λ i l. record { id = i; label = l }) i l

abbrev SmallStep : Step → Type 0
SmallStep x = (x.next ≤ LARGEST_NUMBER) × (x.output ≤ LARGEST_NUMBER)

step_once : (actions k : ℕ) (x y : Step) → SmallStep x → SmallStep y → go_row actions k x ≡ go_row actions k y → x ≡ y
step_once actions k x y p q e =
    let n : x.next ≡ y.next = number_once x.next y.next p.0 q.0 (ap (λ r. field r 3) e) in
    let o : x.output ≡ y.output = number_once x.output y.output p.1 q.1 (ap (λ r. field r 4) e) in
    ap₂ {C = Step} (λ n o. record { next = n; output = o }) n o

abbrev SmallArrow : Drawn → Type 0
SmallArrow (paper.flow i j) = (i ≤ LARGEST_ID) × (j ≤ LARGEST_ID)
SmallArrow (paper.both i j) = (i ≤ LARGEST_ID) × (j ≤ LARGEST_ID)

small_arrow : (ids : List ℕ) (x : Drawn) → Arrow ids x → SmallArrow x
small_arrow ids (paper.flow i j) h = (h.0.0, h.1.0)
small_arrow ids (paper.both i j) h = (h.0.0, h.1.0)

arrow_once : (x y : Drawn) → SmallArrow x → SmallArrow y → arrow_row x ≡ arrow_row y → x ≡ y
arrow_once (paper.flow i j) (paper.flow a b) p q e =
    ap₂ paper.flow (number_once i a p.0 q.0 (ap (λ r. field r 1) e)) (number_once j b p.1 q.1 (ap (λ r. field r 2) e))
arrow_once (paper.both i j) (paper.both a b) p q e =
    ap₂ paper.both (number_once i a p.0 q.0 (ap (λ r. field r 1) e)) (number_once j b p.1 q.1 (ap (λ r. field r 2) e))
arrow_once (paper.flow i j) (paper.both a b) p q e = let z : ◌≡◌ {A = ℕ} 102 98 = ap (λ r. get_or (field r 0) 0 0) e in absurd (omega arith)
arrow_once (paper.both i j) (paper.flow a b) p q e = let z : ◌≡◌ {A = ℕ} 98 102 = ap (λ r. get_or (field r 0) 0 0) e in absurd (omega arith)

small_boxes : (before : List ℕ) (bs : List Box) → Boxes before bs → Each SmallBox bs
small_boxes before [] h = tt
small_boxes before (b ∷ bs) h = (h.0.0, small_boxes (before ++ (b.id ∷ [])) bs h.1)

small_steps : (p : Paper) → Good p → Each SmallStep p.steps
small_steps p g =
    let s = g.states_in.1 in
    each_of (λ x. (x.next < p.states) × (x.output ≤ LARGEST_NUMBER)) SmallStep (λ x h. (let n = h.0 in omega arith, h.1)) p.steps g.steps

-- ---- a whole sheet
abbrev page_as : ℕ → ℕ → ℕ → List Box → List ℕ → List Step → List Drawn → List ℕ → Paper
page_as a b c d i j k l = record { states = a; actions = b; start = c; boxes = d; acts = i; steps = j; arrows = k; classes = l }

module _ (p q : Paper) (g : Good p) (h : Good q) (e : print p ≡ print q) where
  rows_same : rows_of p ≡ rows_of q
  rows_same = text_once (rows_of p) (rows_of q) (plain p g) (plain q h) e

  number : (n a b : ℕ) → a ≤ LARGEST_NUMBER → b ≤ LARGEST_NUMBER → field (get_or (rows_of p) 0 []) n ≡ decimal a → field (get_or (rows_of q) 0 []) n ≡ decimal b → a ≡ b
  number n a b s t x y = number_once a b s t (sym x ∙ ap (λ (rs : List Row). field (get_or rs 0 []) n) rows_same ∙ y)

  states_same : p.states ≡ q.states
  states_same = let a = g.states_in.1 in let b = h.states_in.1 in number 1 p.states q.states (omega arith) (omega arith) refl refl

  actions_same : p.actions ≡ q.actions
  actions_same = let a = g.actions_in.1 in let b = h.actions_in.1 in number 2 p.actions q.actions (omega arith) (omega arith) refl refl

  count_same : length p.boxes ≡ length q.boxes
  count_same = let a = g.boxes_in.1 in let b = h.boxes_in.1 in number 3 (length p.boxes) (length q.boxes) (omega arith) (omega arith) refl refl

  start_same : p.start ≡ q.start
  start_same =
      let a = g.states_in.1 in let b = h.states_in.1 in let c = g.start_in in let d = h.start_in in
      number 4 p.start q.start (omega arith) (omega arith) refl refl

  same_many : {A : Type 0} (row other : ℕ → A → Row) (xs ys : List A) → length xs ≡ length ys → length (rows_from row 0 xs) ≡ length (rows_from other 0 ys)
  same_many row other xs ys l = rows_length row 0 xs ∙ l ∙ sym (rows_length other 0 ys)

  steps_many : length p.steps ≡ length q.steps
  steps_many = g.steps_many ∙ rw (states_same, actions_same) (sym h.steps_many)

  classes_many : length p.classes ≡ length q.classes
  classes_many = g.classes_many ∙ rw (count_same, states_same) (sym h.classes_many)

  abbrev box_rows : Paper → List Row
  box_rows r = rows_from (λ _. box_row) 0 r.boxes

  abbrev act_rows : Paper → List Row
  act_rows r = rows_from (λ _. act_row) 0 r.acts

  abbrev go_rows : Paper → List Row
  go_rows r = rows_from (go_row r.actions) 0 r.steps

  abbrev arrow_rows : Paper → List Row
  arrow_rows r = rows_from (λ _. arrow_row) 0 r.arrows

  abbrev view_rows : Paper → List Row
  view_rows r = rows_from (view_row (ids_of r.boxes) r.states) 0 r.classes

  after_boxes_lem : (box_rows p ≡ box_rows q) × (act_rows p ++ (go_rows p ++ (arrow_rows p ++ view_rows p)) ≡ act_rows q ++ (go_rows q ++ (arrow_rows q ++ view_rows q)))
  after_boxes_lem = append_once (box_rows p) (box_rows q) _ _ (same_many (λ _. box_row) (λ _. box_row) p.boxes q.boxes count_same) (ap (drop 1) rows_same)

  after_acts : (act_rows p ≡ act_rows q) × (go_rows p ++ (arrow_rows p ++ view_rows p) ≡ go_rows q ++ (arrow_rows q ++ view_rows q))
  after_acts = append_once (act_rows p) (act_rows q) _ _ (same_many (λ _. act_row) (λ _. act_row) p.acts q.acts (g.acts_many ∙ actions_same ∙ sym h.acts_many)) after_boxes_lem.1

  after_goes : (go_rows p ≡ go_rows q) × (arrow_rows p ++ view_rows p ≡ arrow_rows q ++ view_rows q)
  after_goes = append_once (go_rows p) (go_rows q) _ _ (same_many (go_row p.actions) (go_row q.actions) p.steps q.steps steps_many) after_acts.1

  -- as many views, so as many arrows
  after_arrows : (arrow_rows p ≡ arrow_rows q) × (view_rows p ≡ view_rows q)
  after_arrows =
      let a : length (arrow_rows p ++ view_rows p) ≡ length (arrow_rows q ++ view_rows q) = ap length after_goes.1 in
      let b = length-append (arrow_rows p) (view_rows p) in let c = length-append (arrow_rows q) (view_rows q) in
      let d : length (view_rows p) ≡ length (view_rows q) = same_many (view_row (ids_of p.boxes) p.states) (view_row (ids_of q.boxes) q.states) p.classes q.classes classes_many in
      append_once (arrow_rows p) (arrow_rows q) (view_rows p) (view_rows q) (omega arith) after_goes.1

  boxes_same : p.boxes ≡ q.boxes
  boxes_same = rows_once (λ _. box_row) SmallBox (λ k. box_once) 0 p.boxes q.boxes (small_boxes [] p.boxes g.boxes) (small_boxes [] q.boxes h.boxes) after_boxes_lem.0

  acts_same : p.acts ≡ q.acts
  acts_same =
      rows_once (λ _. act_row) (λ i. i ≤ LARGEST_ID) (λ k x y a b r. number_once x y a b (ap (λ r. field r 1) r)) 0 p.acts q.acts
      (each_of (Known (ids_of p.boxes)) _ (λ x k. k.0) p.acts g.acts) (each_of (Known (ids_of q.boxes)) _ (λ x k. k.0) q.acts h.acts) after_acts.0

  steps_same : p.steps ≡ q.steps
  steps_same =
      rows_once (go_row p.actions) SmallStep (step_once p.actions) 0 p.steps q.steps (small_steps p g) (small_steps q h)
      (after_goes.0 ∙ ap (λ n. rows_from (go_row n) 0 q.steps) (sym actions_same))

  arrows_same : p.arrows ≡ q.arrows
  arrows_same =
      rows_once (λ _. arrow_row) SmallArrow (λ k. arrow_once) 0 p.arrows q.arrows
      (each_of (Arrow (ids_of p.boxes)) SmallArrow (small_arrow (ids_of p.boxes)) p.arrows g.arrows)
      (each_of (Arrow (ids_of q.boxes)) SmallArrow (small_arrow (ids_of q.boxes)) q.arrows h.arrows) after_arrows.0

  classes_same : p.classes ≡ q.classes
  classes_same =
      rows_once (view_row (ids_of p.boxes) p.states) (λ c. c ≤ LARGEST_NUMBER) (λ k x y a b r. number_once x y a b (ap (λ r. field r 3) r)) 0 p.classes q.classes g.classes h.classes
      (after_arrows.1 ∙ ap₂ (λ i n. rows_from (view_row i n) 0 q.classes) (sym (ap ids_of boxes_same)) (sym states_same))

  pub print_once : p ≡ q
  print_once =
      let a = states_same in let b = actions_same in let c = start_same in let d = boxes_same in
      let i = acts_same in let j = steps_same in let k = arrows_same in let l = classes_same in
      let all : page_as p.states p.actions p.start p.boxes p.acts p.steps p.arrows p.classes
      ≡ page_as q.states q.actions q.start q.boxes q.acts q.steps q.arrows q.classes = cc in
      all

-- a text is printed from one sheet at most
pub one_page : {t : List ℕ} (f f' : PrintedFrom t) → f.page ≡ f'.page
one_page f f' = print_once f.page f'.page f.good f'.good (f.is ∙ sym f'.is)
