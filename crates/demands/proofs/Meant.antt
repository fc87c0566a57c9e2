-- What the reader gives for a printed sheet is what the sheet means: each part by name, and the labels.
-- Assumes nothing.
use Rattle.model.specs.Refusal.{refused_as}
use Rattle.std.specs.Prelude.{Ok, Err}
use Rattle.model.specs.declared.refusal.Refusal.TheVariants as why
use mathlib.Core.Path.{◌≡◌, refl, sym, ap, ap₂, subst, ◌∙◌}
use mathlib.Core.Bool.{Bool, true, false, ◌&&◌, ◌||◌}
use mathlib.Core.List.{List, [], ◌∷◌, ◌++◌, map}
use Prim.Native.Nat.{ℕ, zero, suc, ◌+◌, ◌-◌, ◌*◌, ◌/◌, ◌%◌, ◌^◌, ◌<◌, ◌≤◌}
use native.Mathlib.Omega.{arith}
use native.Mathlib.Nat.{mul-le-mul, mul-add-div_right, div-eq_of_lt, mul-add-mod_self_right, mod-eq_of_lt, le_refl}
use lib.Dec.{eqb, ltb}
use lib.ListN.{length, get_or, set, drop, replicate, length-replicate, length-map, get_or-append}
use lib.Seq.{sets, sets-eq, get_or-set_same, get_or-set_other}
use borrow.Author.Tests.{eq-eqb, eqb-true, eqb-false, le-ltb, ltb-true}
use Rattle.laws.proofs.Tables.{tabulated, tabulate_at, drop_zeros}
use Rattle.laws.proofs.Cells.{cell}
use Rattle.laws.proofs.Tests.{by_test, not_both}
use Rattle.model.specs.declared.Sizes.{Sizes}
use Rattle.laws.specs.Choice.{both, either}
use Rattle.laws.specs.Sets.{has, including, pack}
use Rattle.laws.proofs.Sets.{has_pack, pack_small, including_small, small_of, same_members}
use Rattle.model.specs.Arrows as arrows
use Rattle.model.specs.Arrows.{drawn, selves}
use Rattle.model.proofs.Arrows.{drawn_length, drawn_at, no_arrows, selves_at}
use Rattle.model.specs.Limits.{STATES, ACTIONS, BOXES, NEXT_ENTRIES, OUTPUT_ENTRIES, VIEW_ENTRIES, SHEET_BYTES}
use Rattle.text.specs.Number.{decimal}
use Rattle.sheet.specs.Records.{position}
use Rattle.sheet.specs.Numbers.{Record, rest}
use Rattle.sheet.specs.Phases.{steps}
use Rattle.sheet.specs.Reading.{Parts, parts_as, drawn_as, model, zeros, sheet_text, given, read}
use Rattle.sheet.specs.Words as words
use Rattle.sheet.specs.Label.{label_found, label, labelled}
use Rattle.sheet.proofs.LabelPlace.{label_is}
use Rattle.demands.specs.Printed as paper
use Rattle.demands.specs.Printed.{Row, Box, Step, Drawn, Paper, Good, Each, Boxes, Known, Arrow, ids_of, box_row, rows_from, print, PrintedFrom}
use Rattle.demands.specs.Meant.{sizes_of, table, owners_of, nexts_of, outputs_of, goes, leads, arrow_at, arrows_of, parts_of, labels_of, step_at, class_at}
use Rattle.demands.proofs.Rows.{fields_back}
use Rattle.demands.proofs.Phases.{glues, nexts}
use Rattle.demands.proofs.LineKinds.{box_plain}
use Rattle.demands.proofs.Printing.{draw_all, boxes_line, store_box, BoxAt, boxes_end}
use Rattle.demands.proofs.ReadBack.{acts_line, store_act, ActAt, goes_line, store_go, next_go, GoAt, views_line, store_view, ViewAt, ids_length, empty_steps, model_printed}
use Rattle.demands.proofs.Sheets as sheets

-- ---- a run of lines that stores a number for each item
nexts_sets : {A : Type 0} (line : ℕ → List ℕ → List ℕ → Record) (store : ℕ → List ℕ → ℕ → ℕ → ℕ → ℕ → List ℕ) (row : ℕ → A → Row) (P : ℕ → List ℕ → A → Type 0) (f : A → ℕ)
    (k : ℕ) (s : List ℕ) (xs : List A) → nexts line store row (λ k s x. set s k (f x)) P k s xs ≡ sets s k (map f xs)
unfolding nexts
nexts_sets line store row P f k s [] = refl
nexts_sets line store row P f k s (x ∷ xs) = nexts_sets line store row P f (suc k) (set s k (f x)) xs

-- over zeros they stand in front
stored : (n : ℕ) (xs : List ℕ) → length xs ≤ n → sets (replicate n 0) 0 xs ≡ table n xs
unfolding zeros
stored n xs l =
    let e : 0 + length xs ≡ length xs = omega arith in
    sets-eq xs (replicate n 0) 0 (let r = length-replicate {A = ℕ} n 0 in omega arith)
    ∙ ap (λ m. xs ++ drop m (replicate n 0)) e ∙ ap (λ r. xs ++ r) (drop_zeros (length xs) n)

stored_zeros : (n : ℕ) (xs : List ℕ) → length xs ≤ n → sets (zeros n) 0 xs ≡ table n xs
unfolding zeros
stored_zeros n xs l = stored n xs l

ids_map : (bs : List Box) → map (λ (b : Box). b.id) bs ≡ ids_of bs
unfolding ids_of
ids_map [] = refl
ids_map (b ∷ bs) = ap (λ r. b.id ∷ r) (ids_map bs)

map_same : (xs : List ℕ) → map (λ x. x) xs ≡ xs
map_same [] = refl
map_same (x ∷ xs) = ap (λ r. x ∷ r) (map_same xs)

map_at : {A : Type 0} (f : A → ℕ) (xs : List A) (i : ℕ) (d : A) (e : ℕ) → i < length xs → get_or (map f xs) i e ≡ f (get_or xs i d)
map_at f [] i d e h = absurd (omega arith)
map_at f (x ∷ xs) zero d e h = refl
map_at f (x ∷ xs) (suc i) d e h = map_at f xs i d e (omega arith)

steps_sets : (states actions k : ℕ) (a b : List ℕ) (xs : List Step) →
    nexts (goes_line states actions) (store_go states actions) (paper.go_row actions) (next_go states actions) (GoAt states actions) k (steps a b) xs
    ≡ steps (sets a k (map (λ (x : Step). x.next) xs)) (sets b k (map (λ (x : Step). x.output) xs))
unfolding nexts
steps_sets states actions k a b [] = refl
steps_sets states actions k a b (x ∷ xs) = steps_sets states actions (suc k) (set a k x.next) (set b k x.output) xs

-- ---- arrows
-- tests in another order, and in the words of this page
or_in : (a b c : Bool) → ((a || b) || c) ≡ (b || (a || c))
or_in true true c = refl
or_in true false c = refl
or_in false b c = refl

or_none : (a : Bool) → a ≡ (a || false)
or_none true = refl
or_none false = refl

as_or : (a b c : Bool) → either (both a b) c ≡ ((a && b) || c)
unfolding either both
as_or true true c = refl
as_or true false c = refl
as_or false b c = refl

as_and : (a b : Bool) → both a b ≡ (a && b)
unfolding both
as_and true b = refl
as_and false b = refl

-- every row is a set of boxes
record Rows (l : List ℕ) : Type 0 where
  long : length l ≡ BOXES
  small : (v : ℕ) → get_or l v 0 < 2 ^ BOXES

rows_more : (a b : ℕ) (l : List ℕ) → Rows l → a < BOXES → b < BOXES → Rows (drawn a b l)
rows_more a b l r p q = record { long = drawn_length a b l ∙ r.long; small = λ v. by_test (eqb a v) (λ e. here v (eqb-true a v e)) (λ e. other v (eqb-false a v e)) }
  where
    more : including (get_or l a 0) b < 2 ^ BOXES
    more = including_small BOXES (get_or l a 0) b (r.small a) q

    here : (v : ℕ) → a ≡ v → get_or (drawn a b l) v 0 < 2 ^ BOXES
    here v e = subst (λ x. get_or (drawn a b l) x 0 < 2 ^ BOXES) e (subst (λ x. x < 2 ^ BOXES) (sym (get_or-set_same l a (including (get_or l a 0) b) 0 (omega (arith, r.long)))) more)

    other : (v : ℕ) → (a ≡ v → ⊥) → get_or (drawn a b l) v 0 < 2 ^ BOXES
    other v n = subst (λ x. x < 2 ^ BOXES) (sym (get_or-set_other l a v (including (get_or l a 0) b) 0 (λ e. n (sym e)))) (r.small v)

rows_none : Rows (replicate BOXES 0)
rows_none = record {
  long = length-replicate {A = ℕ} BOXES 0;
  small = λ v. small_of BOXES (get_or (replicate BOXES 0) v 0) (λ u e. not_both e (no_arrows BOXES v u));
}

rows_selves : (n : ℕ) → n ≤ BOXES → Rows (selves n (replicate BOXES 0))
unfolding selves
rows_selves zero h = rows_none
rows_selves (suc n) h = rows_more n n (selves n (replicate BOXES 0)) (rows_selves n (omega arith)) (omega arith) (omega arith)

ends_in : (ids : List ℕ) (i : ℕ) → length ids ≤ BOXES → Known ids i → position ids i < BOXES
ends_in ids i l h = let p : position ids i < length ids = ltb-true _ _ h.1 in omega arith

one : (a b : ℕ) (l : List ℕ) → Rows l → a < BOXES → (v u : ℕ) → arrows.leads (drawn a b l) v u ≡ ((eqb a v && eqb b u) || arrows.leads l v u)
one a b l r p v u = drawn_at a b l (omega (arith, r.long)) v u ∙ as_or (eqb a v) (eqb b u) (arrows.leads l v u)

-- what the arrows that are drawn one after the other lead to
record Draws (ids : List ℕ) (xs : List Drawn) (l : List ℕ) : Type 0 where
  rows : Rows (draw_all ids l xs)
  at : (v u : ℕ) → arrows.leads (draw_all ids l xs) v u ≡ (arrows.leads l v u || leads ids xs v u)

draws : (ids : List ℕ) (xs : List Drawn) (l : List ℕ) → length ids ≤ BOXES → Each (Arrow ids) xs → Rows l → Draws ids xs l
unfolding draw_all leads
draws ids [] l m h r = record { rows = r; at = λ v u. or_none (arrows.leads l v u) }
draws ids (paper.flow i j ∷ xs) l m h r =
    let a = position ids i in
    let b = position ids j in
    let p = ends_in ids i m h.0.0 in
    let d = draws ids xs (drawn a b l) m h.1 (rows_more a b l r p (ends_in ids j m h.0.1)) in
    record {
      rows = d.rows;
      at = λ v u. d.at v u ∙ ap (λ t. t || leads ids xs v u) (one a b l r p v u) ∙ or_in (goes ids i j v u) (arrows.leads l v u) (leads ids xs v u);
    }
draws ids (paper.both i j ∷ xs) l m h r =
    let a = position ids i in
    let b = position ids j in
    let p = ends_in ids i m h.0.0 in
    let q = ends_in ids j m h.0.1 in
    let r' = rows_more a b l r p q in
    let d = draws ids xs (drawn b a (drawn a b l)) m h.1 (rows_more b a (drawn a b l) r' q p) in
    record {
      rows = d.rows;
      at = λ v u.
          d.at v u ∙ ap (λ t. t || leads ids xs v u) (one b a (drawn a b l) r' q v u)
          ∙ or_in (goes ids j i v u) (arrows.leads (drawn a b l) v u) (leads ids xs v u)
          ∙ ap (λ t. t || (goes ids j i v u || leads ids xs v u)) (one a b l r p v u)
          ∙ or_in (goes ids i j v u) (arrows.leads l v u) (goes ids j i v u || leads ids xs v u);
    }

-- ---- labels
box_at : (k : ℕ) (before : List ℕ) (bs : List Box) (left : List (List ℕ)) (i : ℕ) → Boxes before bs → i < length bs →
    get_or (rest (get_or (glues (rows_from (λ _. box_row) k bs) ++ left) i [])) 1 [] ≡ get_or (map (λ (b : Box). b.label) bs) i []
unfolding glues rows_from
box_at k before [] left i h l = absurd (omega arith)
box_at k before (b ∷ bs) left zero h l = ap (λ (fs : Row). get_or (drop 1 fs) 1 []) (fields_back (box_row b) (box_plain b h.0.2))
box_at k before (b ∷ bs) left (suc i) h l = box_at (suc k) (before ++ (b.id ∷ [])) bs left i h.1 (omega arith)

-- ---- a whole sheet, part by part
module _ (p : Paper) (g : Good p) where
  abbrev ids : List ℕ
  ids = ids_of p.boxes

  abbrev own : List ℕ
  own = selves (length ids) (replicate BOXES 0)

  ids_few : length ids ≤ BOXES
  ids_few = rw (ids_length p.boxes) g.boxes_in.1

  ids_mean : boxes_end 0 (replicate BOXES 0) p.boxes ≡ table BOXES ids
  ids_mean =
      nexts_sets boxes_line store_box (λ _. box_row) BoxAt (λ (b : Box). b.id) 0 (replicate BOXES 0) p.boxes
      ∙ ap (sets (replicate BOXES 0) 0) (ids_map p.boxes) ∙ stored BOXES ids ids_few

  owners_mean : sheets.acts_end p g ≡ table ACTIONS (owners_of p)
  owners_mean =
      let m = length-map p.acts (position ids) in let n = g.acts_many in let few = g.actions_in.1 in
      nexts_sets (acts_line ids) (store_act ids) (λ _. paper.act_row) (ActAt ids) (position ids) 0 (replicate ACTIONS 0) p.acts
      ∙ stored ACTIONS (owners_of p) (omega arith)

  steps_mean : sheets.goes_end p g empty_steps ≡ steps (table NEXT_ENTRIES (nexts_of p)) (table OUTPUT_ENTRIES (outputs_of p))
  steps_mean =
      let m = length-map p.steps (λ (x : Step). x.next) in let o = length-map p.steps (λ (x : Step). x.output) in
      let n = g.steps_many in
      let few : p.states * p.actions ≤ STATES * ACTIONS = mul-le-mul g.states_in.1 g.actions_in.1 in
      steps_sets p.states p.actions 0 (zeros NEXT_ENTRIES) (zeros OUTPUT_ENTRIES) p.steps
      ∙ ap₂ steps (stored_zeros NEXT_ENTRIES (nexts_of p) (omega arith)) (stored_zeros OUTPUT_ENTRIES (outputs_of p) (omega arith))

  views_mean : sheets.views_end p g (zeros VIEW_ENTRIES) ≡ table VIEW_ENTRIES p.classes
  views_mean =
      let n = g.classes_many in
      let few : length p.boxes * p.states ≤ BOXES * STATES = mul-le-mul g.boxes_in.1 g.states_in.1 in
      nexts_sets (views_line ids p.states) (store_view ids p.states) (paper.view_row ids p.states) (ViewAt ids p.states) (λ c. c) 0 (zeros VIEW_ENTRIES) p.classes
      ∙ ap (sets (zeros VIEW_ENTRIES) 0) (map_same p.classes) ∙ stored_zeros VIEW_ENTRIES p.classes (omega arith)

  arrows_mean : sheets.flows_end p g ≡ arrows_of p
  arrows_mean = tabulated 0 BOXES _ (sheets.flows_end p g) all.rows.long row
    where
      all : Draws ids p.arrows own
      all = draws ids p.arrows own ids_few g.arrows (rows_selves (length ids) ids_few)

      at : (v u : ℕ) → arrows.leads (sheets.flows_end p g) v u ≡ arrow_at p v u
      at v u =
          all.at v u
          ∙ ap (λ t. t || leads ids p.arrows v u) (selves_at (length ids) BOXES ids_few v u ∙ as_and (ltb v (length ids)) (eqb v u)
          ∙ ap (λ n. ltb v n && eqb v u) (ids_length p.boxes))

      row : (v : ℕ) → v < BOXES → get_or (sheets.flows_end p g) v 0 ≡ pack (arrow_at p v) 0 BOXES
      row v l =
          same_members BOXES _ _ (all.rows.small v) (pack_small (arrow_at p v) BOXES 0)
          (λ u k. at v u ∙ sym (has_pack (arrow_at p v) BOXES 0 u k ∙ ap (arrow_at p v) (omega arith)))

  parts_mean : sheets.parts_end p g empty_steps (zeros VIEW_ENTRIES) ≡ parts_of p
  parts_mean =
      ap (λ i. parts_as i (sheets.acts_end p g) (drawn_as (sheets.goes_end p g empty_steps) (sheets.flows_end p g) (sheets.views_end p g (zeros VIEW_ENTRIES)))) ids_mean
      ∙ ap₂ (λ o t. parts_as (table BOXES ids) o (drawn_as t (sheets.flows_end p g) (sheets.views_end p g (zeros VIEW_ENTRIES)))) owners_mean steps_mean
      ∙ ap₂ (λ a v. parts_as (table BOXES ids) (table ACTIONS (owners_of p)) (drawn_as (steps (table NEXT_ENTRIES (nexts_of p)) (table OUTPUT_ENTRIES (outputs_of p))) a v)) arrows_mean views_mean

  module _ (short : length (print p) ≤ SHEET_BYTES) where
    -- ---- the theorems: the reader gives what the sheet means, and the label call the label of the position
    pub printed_means : sheet_text (print p) ≡ model (sizes_of p) (parts_of p)
    printed_means = sheets.printed_model p g short ∙ ap (model (sizes_of p)) parts_mean

    pub label_means : (i : ℕ) → i < length p.boxes → (start : ℕ) × (label (print p) i ≡ Ok (labelled (get_or (labels_of p) i []) start))
    label_means i h =
        let e : i + 1 ≡ suc i = omega arith in
        let w = label_is (print p) printed_means i h in
        let b : w.bytes ≡ get_or (labels_of p) i [] =
        w.third
        ∙ ap₂ (λ (ls : List (List ℕ)) n. get_or (rest (get_or ls n [])) 1 []) (sheets.printed p g) e
        ∙ box_at 0 [] p.boxes _ i g.boxes h in
        (w.start, w.is ∙ ap (λ x. Ok (labelled x w.start)) b)

    pub label_none : (i : ℕ) → length p.boxes ≤ i → label (print p) i ≡ Err (refused_as why.Range 0)
    unfolding label_found
    label_none i h = rw (printed_means, le-ltb i (length p.boxes) h) refl

    -- the whole call, over tables of the lengths that it takes
    pub read_means : (next outputs views : List ℕ) → length next ≡ NEXT_ENTRIES → length outputs ≡ OUTPUT_ENTRIES → length views ≡ VIEW_ENTRIES →
        read (print p) next outputs views ≡ given (model (sizes_of p) (parts_of p))
    unfolding read
    read_means next outputs views a b c = rw (eq-eqb _ _ a, eq-eqb _ _ b, eq-eqb _ _ c) (ap given printed_means)

-- whatever the reader gives is what a sheet means that the text is printed from
pub given_means : (t : List ℕ) {z : Sizes} {q : Parts} → sheet_text t ≡ model z q →
    (f : PrintedFrom t) × (model z q ≡ model (sizes_of f.page) (parts_of f.page))
given_means t h =
    let f = model_printed t h in
    (f, sym h ∙ ap sheet_text (sym f.is) ∙ printed_means f.page f.good (rw f.is f.short))

-- ---- what it means, entry by entry
-- the number of a row and a column tells both
row_of_lem : (w r c : ℕ) → c < w → (r * w + c) / w ≡ r
row_of_lem w r c h = mul-add-div_right (omega arith) r c ∙ (let z = div-eq_of_lt h in omega arith)

column_of_lem : (w r c : ℕ) → c < w → (r * w + c) % w ≡ c
column_of_lem w r c h = mul-add-mod_self_right r w c ∙ mod-eq_of_lt h

table_at : (n : ℕ) (xs : List ℕ) (i : ℕ) → i < length xs → get_or (table n xs) i 0 ≡ get_or xs i 0
table_at n xs i h = get_or-append xs (zeros (n - length xs)) 0 i h

pub go_says_lem : (actions s a : ℕ) (x : Step) → a < actions → paper.go_row actions (s * actions + a) x ≡ words.go ∷ decimal s ∷ decimal a ∷ decimal x.next ∷ decimal x.output ∷ []
go_says_lem actions s a x h = ap₂ (λ i j. words.go ∷ decimal i ∷ decimal j ∷ decimal x.next ∷ decimal x.output ∷ []) (row_of_lem actions s a h) (column_of_lem actions s a h)

pub view_says_lem : (ids : List ℕ) (states u s c : ℕ) → s < states → paper.view_row ids states (u * states + s) c ≡ words.view ∷ decimal (get_or ids u 0) ∷ decimal s ∷ decimal c ∷ []
view_says_lem ids states u s c h = ap₂ (λ i j. words.view ∷ decimal (get_or ids i 0) ∷ decimal j ∷ decimal c ∷ []) (row_of_lem states u s h) (column_of_lem states u s h)

module _ (p : Paper) (g : Good p) where
  pub id_at_lem : (u : ℕ) → u < length p.boxes → get_or (parts_of p).ids u 0 ≡ get_or (ids_of p.boxes) u 0
  id_at_lem u h = table_at BOXES (ids_of p.boxes) u (rw (ids_length p.boxes) h)

  pub owner_at_lem : (a : ℕ) → a < p.actions → get_or (parts_of p).owners a 0 ≡ position (ids_of p.boxes) (get_or p.acts a 0)
  owner_at_lem a h =
      let m = length-map p.acts (position (ids_of p.boxes)) in let n = g.acts_many in
      table_at ACTIONS (owners_of p) a (omega arith) ∙ map_at (position (ids_of p.boxes)) p.acts a 0 0 (omega arith)

  step_in_lem : (s a : ℕ) → s < p.states → a < p.actions → s * p.actions + a < length p.steps
  step_in_lem s a x y = let n = g.steps_many in let c = cell p.states p.actions x (le_refl p.states) y (le_refl p.actions) in omega arith

  pub next_at_lem : (s a : ℕ) → s < p.states → a < p.actions → get_or (parts_of p).drawn.steps.next (s * p.actions + a) 0 ≡ (step_at p s a).next
  next_at_lem s a x y =
      let l = step_in_lem s a x y in let m = length-map p.steps (λ (x : Step). x.next) in
      table_at NEXT_ENTRIES (nexts_of p) (s * p.actions + a) (omega arith) ∙ map_at (λ (x : Step). x.next) p.steps (s * p.actions + a) _ 0 l

  pub output_at_lem : (s a : ℕ) → s < p.states → a < p.actions → get_or (parts_of p).drawn.steps.outputs (s * p.actions + a) 0 ≡ (step_at p s a).output
  output_at_lem s a x y =
      let l = step_in_lem s a x y in let m = length-map p.steps (λ (x : Step). x.output) in
      table_at OUTPUT_ENTRIES (outputs_of p) (s * p.actions + a) (omega arith) ∙ map_at (λ (x : Step). x.output) p.steps (s * p.actions + a) _ 0 l

  pub class_at_lem : (u s : ℕ) → u < length p.boxes → s < p.states → get_or (parts_of p).drawn.views (u * p.states + s) 0 ≡ class_at p u s
  class_at_lem u s x y =
      let n = g.classes_many in let c = cell (length p.boxes) p.states x (le_refl (length p.boxes)) y (le_refl p.states) in
      table_at VIEW_ENTRIES p.classes (u * p.states + s) (omega arith)

  pub arrow_at_lem : (v u : ℕ) → v < BOXES → u < BOXES → arrows.leads (parts_of p).drawn.arrows v u ≡ arrow_at p v u
  arrow_at_lem v u x y =
      ap (λ row. has row u) (tabulate_at BOXES (λ v. pack (arrow_at p v) 0 BOXES) v 0 x)
      ∙ has_pack (arrow_at p v) BOXES 0 u y ∙ ap (arrow_at p v) (omega arith)
