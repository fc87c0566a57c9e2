-- A text that isn't refused is printed from a sheet that keeps to the rules.
-- Assumes nothing.
use Rattle.std.specs.Prelude.{Ok, Err}
use Rattle.model.specs.declared.refusal.Refusal.{Refusal}
use Rattle.model.specs.declared.refusal.Refusal.TheVariants as why
use mathlib.Core.Path.{◌≡◌, refl, sym, ap, ap₂, ◌∙◌, subst}
use mathlib.Core.Bool.{Bool, true, false, cond, ◌&&◌}
use mathlib.Core.List.{List, [], ◌∷◌, ◌++◌, append-nil}
use Prim.Native.Nat.{ℕ, suc, ◌+◌, ◌-◌, ◌*◌, ◌/◌, ◌%◌, ◌<◌, ◌≤◌}
use native.Mathlib.Omega.{arith}
use lib.Dec.{eqb, ltb, leb}
use lib.ListN.{length, get_or, set, take, replicate, length-replicate}
use borrow.Author.Tests.{eqb-true, leb-true}
use Rattle.model.specs.Limits.{BOXES, ACTIONS, NEXT_ENTRIES, OUTPUT_ENTRIES, VIEW_ENTRIES, SHEET_BYTES, LARGEST_NUMBER}
use Rattle.model.specs.Made.{sizes_from}
use Rattle.model.specs.Good.{GoodSizes}
use Rattle.model.specs.declared.Sizes.{Sizes}
use Rattle.text.specs.Lines.{lines}
use Rattle.sheet.specs.Numbers.{Record, said, on_record}
use Rattle.sheet.specs.Records.{sized, position, sheet_line, act_line, go_line, view_line}
use Rattle.model.specs.Arrows.{selves}
use Rattle.sheet.specs.Phases.{Got, got, refused, Steps, steps, boxes, acts, goes, flows, views}
use Rattle.sheet.specs.Reading.{on_got, drawing, Parts, parts_as, parts, model, refusal, finish, sheet_lines, zeros, sheet_text}
use Rattle.sheet.proofs.Good.{both_true, sheet_good}
use Rattle.demands.specs.Printed as paper
use Rattle.demands.specs.Printed.{Row, Box, Step, Paper, Good, Each, Boxes, Known, Arrow, ids_of, box_row, act_row, go_row, arrow_row, view_row, rows_from, rows_of, PrintedFrom}
use Rattle.demands.proofs.Rows.{glue}
use Rattle.demands.proofs.Phases.{glues, glues_append, no_got, Follow, Item, phase_back}
use Rattle.demands.proofs.LineKinds.{sizes_row, sheet_back, box_back, act_back, Went, go_back, Seen, view_back}
use Rattle.demands.proofs.Texts.{unlines, text_unlines, ended_lines}
use Rattle.demands.proofs.Printing.{flows_back, boxes_line, store_box, next_box, BoxAt, boxes_follow, ids_are}

-- ---- what stands behind a phase that was read
record Through {S T : Type 0} (g : Got S) (f : S → List (List ℕ) → ℕ → Got T) (t : T) (ls : List (List ℕ)) (n : ℕ) : Type 0 where
  s : S
  left : List (List ℕ)
  at : ℕ
  is : g ≡ got s left at
  then : f s left at ≡ got t ls n

through : {S T : Type 0} (g : Got S) (f : S → List (List ℕ) → ℕ → Got T) {t : T} {ls : List (List ℕ)} {n : ℕ} → on_got g f ≡ got t ls n → Through g f t ls n
through (got s ls n) f h = record { s = s; left = ls; at = n; is = refl; then = h }
through (refused e n) f h = no_got h

-- ---- the phases of actions, steps and views
module _ (ids : List ℕ) where
  abbrev pub acts_line : ℕ → List ℕ → List ℕ → Record
  acts_line k _ = act_line ids

  abbrev pub store_act : ℕ → List ℕ → ℕ → ℕ → ℕ → ℕ → List ℕ
  store_act k owners box _ _ _ = set owners k box

  abbrev pub next_act : ℕ → List ℕ → ℕ → List ℕ
  next_act k owners id = set owners k (position ids id)

  abbrev pub ActAt : ℕ → List ℕ → ℕ → Type 0
  ActAt k _ id = Known ids id

  acts_back : (k : ℕ) (s l : List ℕ) (a b c d : ℕ) → acts_line k s l ≡ said a b c d → Item acts_line store_act (λ _. act_row) next_act ActAt k s l a b c d
  acts_back k s l a b c d h = let x = act_back ids l h in record { x = x.id; is = x.is; good = x.good; stored = ap (set s k) x.at }

module _ (states actions : ℕ) where
  abbrev pub goes_line : ℕ → Steps → List ℕ → Record
  goes_line k _ = go_line states (k / actions) (k % actions)

  abbrev pub store_go : ℕ → Steps → ℕ → ℕ → ℕ → ℕ → Steps
  store_go k t _ _ next output = steps (set t.next k next) (set t.outputs k output)

  abbrev pub next_go : ℕ → Steps → Step → Steps
  next_go k t x = steps (set t.next k x.next) (set t.outputs k x.output)

  abbrev pub GoAt : ℕ → Steps → Step → Type 0
  GoAt k _ x = Went states actions k x

  goes_back : (k : ℕ) (s : Steps) (l : List ℕ) (a b c d : ℕ) → goes_line k s l ≡ said a b c d → Item goes_line store_go (go_row actions) next_go GoAt k s l a b c d
  goes_back k s l a b c d h =
      let x = go_back states actions k l h in
      record { x = x.step; is = x.is; good = x.good; stored = ap₂ (λ n o. steps (set s.next k n) (set s.outputs k o)) x.next_is x.output_is }

module _ (ids : List ℕ) (states : ℕ) where
  abbrev pub views_line : ℕ → List ℕ → List ℕ → Record
  views_line k _ = view_line (get_or ids (k / states) 0) (k % states)

  abbrev pub store_view : ℕ → List ℕ → ℕ → ℕ → ℕ → ℕ → List ℕ
  store_view k t _ _ class _ = set t k class

  abbrev pub next_view : ℕ → List ℕ → ℕ → List ℕ
  next_view k t class = set t k class

  abbrev pub ViewAt : ℕ → List ℕ → ℕ → Type 0
  ViewAt k _ class = Seen ids states k class

  views_back : (k : ℕ) (s l : List ℕ) (a b c d : ℕ) → views_line k s l ≡ said a b c d → Item views_line store_view (view_row ids states) next_view ViewAt k s l a b c d
  views_back k s l a b c d h = let x = view_back ids states k l h in record { x = c; is = x.is; good = x.good; stored = refl }

boxes_back : (k : ℕ) (s l : List ℕ) (a b c d : ℕ) → boxes_line k s l ≡ said a b c d → Item boxes_line store_box (λ _. box_row) next_box BoxAt k s l a b c d
boxes_back k s l a b c d h = let x = box_back (take k s) l h in record { x = x.x; is = x.is; good = x.good; stored = ap (set s k) x.at }

-- ---- the rules of each item, from those of its place
each_of : {S A : Type 0} (line : ℕ → S → List ℕ → Record) (store : ℕ → S → ℕ → ℕ → ℕ → ℕ → S) (row : ℕ → A → Row) (next : ℕ → S → A → S) (P : ℕ → S → A → Type 0) (Q : A → Type 0) →
    ((k : ℕ) (s : S) (x : A) → P k s x → Q x) → (k : ℕ) (s : S) (xs : List A) → Follow line store row next P k s xs → Each Q xs
each_of line store row next P Q f k s [] h = tt
each_of line store row next P Q f k s (x ∷ xs) h = (f k s x h.0, each_of line store row next P Q f (suc k) (next k s x) xs h.1)

-- ---- all that stands after the `box` lines
pub record Rest (ids : List ℕ) (states actions : ℕ) (ls : List (List ℕ)) : Type 0 where
  pub owns : List ℕ
  pub gs : List Step
  pub xs : List paper.Drawn
  pub cs : List ℕ
  pub acts_many : length owns ≡ actions
  pub acts_good : Each (Known ids) owns
  pub steps_many : length gs ≡ states * actions
  pub steps_good : Each (λ x. (x.next < states) × (x.output ≤ LARGEST_NUMBER)) gs
  pub arrows_good : Each (Arrow ids) xs
  pub classes_many : length cs ≡ length ids * states
  pub classes_good : Each (λ c. c ≤ LARGEST_NUMBER) cs
  pub lines_are : ls ≡ glues (rows_from (λ _. act_row) 0 owns) ++ (glues (rows_from (go_row actions) 0 gs)
      ++ (glues (rows_from (λ _. arrow_row) 0 xs) ++ glues (rows_from (view_row ids states) 0 cs)))

record Body (states actions count : ℕ) (ls : List (List ℕ)) : Type 0 where
  bs : List Box
  many : length bs ≡ count
  good : Boxes [] bs
  left : List (List ℕ)
  rest : Rest (ids_of bs) states actions left
  lines_are : ls ≡ glues (rows_from (λ _. box_row) 0 bs) ++ left

module _ (states actions : ℕ) (table : Steps) (classes : List ℕ) where
  abbrev after_boxes : List ℕ → List ℕ → List (List ℕ) → ℕ → Got Parts
  after_boxes all ids ls n =
      on_got (acts ids actions ls n) (λ owners ls n.
      on_got (drawing states actions ids table classes ls n) (λ d ls n. got (parts_as all owners d) ls n))

  rest_back : (all ids : List ℕ) (ls : List (List ℕ)) (n : ℕ) {p : Parts} {n' : ℕ} → after_boxes all ids ls n ≡ got p [] n' → Rest ids states actions ls
  unfolding drawing
  rest_back all ids ls n {p} {n'} h =
      let a = through (acts ids actions ls n) _ h in
      let at = phase_back (acts_line ids) (store_act ids) (λ _. act_row) (next_act ids) (ActAt ids) (acts_back ids) actions 0 (replicate ACTIONS 0) ls n a.is in
      let d = through (drawing states actions ids table classes a.left a.at) _ a.then in
      let g = through (goes states actions table a.left a.at) _ d.is in
      let gt = phase_back (goes_line states actions) (store_go states actions) (go_row actions) (next_go states actions) (GoAt states actions)
      (goes_back states actions) (states * actions) 0 table a.left a.at g.is in
      let f = through (flows ids (selves (length ids) (replicate BOXES 0)) g.left g.at) _ g.then in
      let ft = flows_back ids 0 (selves (length ids) (replicate BOXES 0)) g.left g.at f.is in
      let v = through (views ids states classes f.left f.at) _ f.then in
      let vt = phase_back (views_line ids states) (store_view ids states) (view_row ids states) (next_view ids states) (ViewAt ids states)
      (views_back ids states) (length ids * states) 0 classes f.left f.at v.is in
      let none : d.left ≡ [] = let q = d.then in cc in
      let last : v.left ≡ d.left = let q = v.then in cc in
      record {
        owns = at.items;
        gs = gt.items;
        xs = ft.items;
        cs = vt.items;
        acts_many = at.many;
        acts_good = each_of (acts_line ids) (store_act ids) (λ _. act_row) (next_act ids) (ActAt ids) (Known ids) (λ k s x q. q) 0 _ at.items at.follow;
        steps_many = gt.many;
        steps_good = each_of (goes_line states actions) (store_go states actions) (go_row actions) (next_go states actions) (GoAt states actions) _ (λ k s x q. (q.next_in, q.output_small)) 0 _ gt.items gt.follow;
        arrows_good = ft.good;
        classes_many = vt.many;
        classes_good = each_of (views_line ids states) (store_view ids states) (view_row ids states) (next_view ids states) (ViewAt ids states) _ (λ k s x q. q.class_small) 0 _ vt.items vt.follow;
        lines_are =
            at.lines_are ∙ ap (λ r. glues (rows_from (λ _. act_row) 0 at.items) ++ r)
            (gt.lines_are ∙ ap (λ r. glues (rows_from (go_row actions) 0 gt.items) ++ r)
            (ft.lines_are ∙ ap (λ r. glues (rows_from (λ _. arrow_row) 0 ft.items) ++ r)
            (vt.lines_are ∙ ap (λ r. glues (rows_from (view_row ids states) 0 vt.items) ++ r) (last ∙ none) ∙ append-nil _)));
      }

  body_back : (count : ℕ) → count ≤ BOXES → (ls : List (List ℕ)) (n : ℕ) {p : Parts} {n' : ℕ} → parts states actions count table classes ls n ≡ got p [] n' → Body states actions count ls
  unfolding parts
  body_back count few ls n {p} {n'} h =
      let b = through (boxes count ls n) _ h in
      let t = phase_back boxes_line store_box (λ _. box_row) next_box BoxAt boxes_back count 0 (replicate BOXES 0) ls n b.is in
      let m = t.many in
      let room : 0 + length t.items ≤ length (replicate {A = ℕ} BOXES 0) = let r = length-replicate {A = ℕ} BOXES 0 in omega arith in
      let e : count ≡ 0 + length t.items = omega arith in
      let i : take count b.s ≡ ids_of t.items = ap₂ take e t.ends ∙ ids_are 0 (replicate BOXES 0) t.items room in
      record {
        bs = t.items;
        many = t.many;
        good = boxes_follow 0 (replicate BOXES 0) t.items room t.follow;
        left = b.left;
        rest = rest_back b.s (ids_of t.items) b.left b.at (subst (λ ids. after_boxes b.s ids b.left b.at ≡ got p [] n') i b.then);
        lines_are = t.lines_are;
      }

-- ---- a text that isn't refused is printed from what was read
pub ids_length : (bs : List Box) → length (ids_of bs) ≡ length bs
unfolding ids_of
ids_length [] = refl
ids_length (b ∷ bs) = ap suc (ids_length bs)

pub all_glues : (a b c d e : List Row) → glues (a ++ (b ++ (c ++ (d ++ e)))) ≡ glues a ++ (glues b ++ (glues c ++ (glues d ++ glues e)))
all_glues a b c d e =
    glues_append a _ ∙ ap (λ r. glues a ++ r) (glues_append b _ ∙ ap (λ r. glues b ++ r) (glues_append c _ ∙ ap (λ r. glues c ++ r) (glues_append d e)))

module _ (t : List ℕ) (a b c d : ℕ) (z : GoodSizes (sizes_from a b c d)) (ls : List (List ℕ)) (w : Body a b c ls) where
  abbrev page_of : Paper
  page_of = record { states = a; actions = b; start = d; boxes = w.bs; acts = w.rest.owns; steps = w.rest.gs; arrows = w.rest.xs; classes = w.rest.cs }

  page_good : Good page_of
  page_good = record {
    states_in = (z.states_some, z.states_most);
    actions_in = (z.actions_some, z.actions_most);
    boxes_in = rw w.many (z.boxes_some, z.boxes_most);
    start_in = z.start_in;
    boxes = w.good;
    acts_many = w.rest.acts_many;
    acts = w.rest.acts_good;
    steps_many = w.rest.steps_many;
    steps = w.rest.steps_good;
    arrows = w.rest.arrows_good;
    classes_many = w.rest.classes_many ∙ ap (λ n. n * a) (ids_length w.bs);
    classes = w.rest.classes_good;
  }

  page_lines : glues (rows_of page_of) ≡ glue (sizes_row a b c d) ∷ ls
  unfolding glues
  page_lines =
      ap₂ (λ x xs. x ∷ xs) (ap (λ n. glue (sizes_row a b n d)) w.many)
      (all_glues (rows_from (λ _. box_row) 0 w.bs) (rows_from (λ _. act_row) 0 w.rest.owns) (rows_from (go_row b) 0 w.rest.gs)
      (rows_from (λ _. arrow_row) 0 w.rest.xs) (rows_from (view_row (ids_of w.bs) a) 0 w.rest.cs) ∙ ap (λ r. glues (rows_from (λ _. box_row) 0 w.bs) ++ r) (sym w.rest.lines_are) ∙ sym w.lines_are)

pub no_model : {X : Type 0} {n : Refusal} {l : ℕ} {z : Sizes} {p : Parts} → refusal n l ≡ model z p → X
no_model h = let d : ◌≡◌ {A = ℕ} 0 1 = cc in absurd (omega arith)

record Finished (g : Got Parts) : Type 0 where
  p : Parts
  n : ℕ
  is : g ≡ got p [] n

finished : (g : Got Parts) (z : Sizes) {y : Sizes} {p : Parts} → finish g (model z) ≡ model y p → Finished g
finished (got p [] n) z h = record { p = p; n = n; is = refl }
finished (got p (l ∷ ls) n) z h = no_model h
finished (refused e n) z h = no_model h

abbrev pub empty_steps : Steps
empty_steps = steps (zeros NEXT_ENTRIES) (zeros OUTPUT_ENTRIES)

abbrev pub fitting : List ℕ → Bool
fitting t = sized SHEET_BYTES (length t) && eqb (get_or t (length t - 1) 0) 10

from_lines : (t : List ℕ) → fitting t ≡ true → (ls : List (List ℕ)) → lines t ≡ ls → {y : Sizes} {p : Parts} → sheet_lines empty_steps (zeros VIEW_ENTRIES) ls ≡ model y p → PrintedFrom t
unfolding sheet_lines
from_lines t q [] e h = no_model h
from_lines t q (l ∷ ls) e {y} {p} h = go (sheet_line l) refl h
  where
    go : (r : Record) → sheet_line l ≡ r → on_record r (λ a b c d. finish (parts a b c empty_steps (zeros VIEW_ENTRIES) ls 2) (model (sizes_from a b c d))) (λ e. refusal e 1) ≡ model y p → PrintedFrom t
    go (Err n) s h = no_model h
    go (Ok ns) s h =
        let z = sheet_good l s in
        let f = finished (parts ns.first ns.second ns.third empty_steps (zeros VIEW_ENTRIES) ls 2) (sizes_from ns.first ns.second ns.third ns.fourth) h in
        let w = body_back ns.first ns.second empty_steps (zeros VIEW_ENTRIES) ns.third z.boxes_most ls 2 f.is in
        let k = both_true (sized SHEET_BYTES (length t)) (eqb (get_or t (length t - 1) 0) 10) q in
        record {
          page = page_of t ns.first ns.second ns.third ns.fourth z ls w;
          good = page_good t ns.first ns.second ns.third ns.fourth z ls w;
          is = text_unlines (rows_of (page_of t ns.first ns.second ns.third ns.fourth z ls w))
              ∙ ap unlines (page_lines t ns.first ns.second ns.third ns.fourth z ls w ∙ ap (λ x. x ∷ ls) (sym (sheet_back l s)) ∙ sym e) ∙ ended_lines t (eqb-true _ _ k.1);
          short = leb-true _ _ (both_true (ltb 0 (length t)) (leb (length t) SHEET_BYTES) k.0).1;
        }

pub model_printed : (t : List ℕ) {z : Sizes} {p : Parts} → sheet_text t ≡ model z p → PrintedFrom t
unfolding sheet_text
model_printed t {z} {p} h = go (fitting t) refl h
  where
    go : (u : Bool) → fitting t ≡ u → cond u (sheet_lines empty_steps (zeros VIEW_ENTRIES) (lines t)) (refusal why.Text 0) ≡ model z p → PrintedFrom t
    go true q h = from_lines t q (lines t) refl h
    go false q h = no_model h
