-- A text is refused exactly where the table says: the first bad line decides, and in it the first row that holds. Assumes nothing.
use Rattle.model.specs.declared.refusal.Refusal.{Refusal}
use Rattle.model.specs.declared.refusal.Refusal.TheVariants as why
use Rattle.std.specs.Prelude.{Ok, Err}
use Prim.Native.Nat.{ℕ, ◌-◌, ◌*◌, ◌<◌}
use mathlib.Core.Path.{◌≡◌, refl, sym, ap, ◌∙◌}
use mathlib.Core.List.{List, [], ◌∷◌}
use mathlib.Core.Bool.{Bool, true, false, cond, ◌&&◌}
use native.Mathlib.Omega.{arith}
use native.Mathlib.Nat.{mul-le-mul}
use lib.ListN.{length, get_or, take, replicate}
use lib.Seq.{length-take-le}
use lib.Dec.{eqb}
use Rattle.model.specs.Limits.{BOXES, NEXT_ENTRIES, OUTPUT_ENTRIES, VIEW_ENTRIES, SHEET_BYTES}
use Rattle.model.specs.Made.{sizes_from}
use Rattle.model.specs.Good.{GoodSizes}
use Rattle.model.specs.declared.Sizes.{Sizes}
use Rattle.text.specs.Lines.{lines}
use Rattle.model.specs.Arrows.{selves}
use Rattle.sheet.specs.Records as due
use Rattle.sheet.specs.Numbers.{Record, on_record}
use Rattle.sheet.specs.Records.{sized, sheet_line}
use Rattle.sheet.specs.Phases.{Got, got, refused, Steps, steps, boxes, acts, goes, flows, views}
use Rattle.sheet.specs.Reading.{zeros, on_got, drawn_as, drawing, Parts, parts_as, parts, Reading, model, refusal, finish, sheet_lines, sheet_text}
use Rattle.sheet.specs.Table.{by_rows}
use Rattle.sheet.specs.Meaning.{at_sheet, at_end, boxes_from, goes_from, after, RefusedText, whole, by_line}
use Rattle.sheet.proofs.ByRows.{by_rows_lem}
use Rattle.sheet.proofs.Good.{sheet_good}
use Rattle.sheet.proofs.Meant.{Judged, fine, refused_at, walk, on_judged, meant, refuses}
use Rattle.sheet.proofs.Sound.{ids_good}
use Rattle.sheet.proofs.Walk.{boxes_walk, acts_walk, goes_walk, flows_walk, views_walk}

-- how reading ends, but for what was read: no line may follow the last
fin : {S : Type 0} → Got S → Judged
fin (got s [] n) = fine
fin (got s (l ∷ ls) n) = refused_at why.Record n
fin (refused e n) = refused_at e n

at_end_lem : {S : Type 0} (s : S) (ls : List (List ℕ)) (n : ℕ) → walk at_end ls n ≡ fin (got s ls n)
unfolding walk by_rows fin
at_end_lem s [] n = refl
at_end_lem s (l ∷ ls) n = refl

chain : {S T : Type 0} (g : Got S) (w : S → List (List ℕ) → ℕ → Judged) (f : S → List (List ℕ) → ℕ → Got T) → ((s : S) (ls : List (List ℕ)) (n : ℕ) → g ≡ got s ls n → w s ls n ≡ fin (f s ls n)) → on_judged g w ≡ fin (on_got g f)
unfolding fin
chain (got s ls n) w f h = h s ls n refl
chain (refused e n) w f h = refl

module _ (z : Sizes) (ids : List ℕ) (some : 0 < length ids * z.states) (t : Steps) (v : List ℕ) where
  drawing_walk : (ls : List (List ℕ)) (n : ℕ) → walk (goes_from z ids 0) ls n ≡ fin (drawing z.states z.actions ids t v ls n)
  unfolding drawing
  drawing_walk ls n =
      goes_walk z ids t ls n ∙ chain (goes z.states z.actions t ls n) _ _ (λ t ls n _.
      flows_walk z ids some (selves (length ids) (replicate BOXES 0)) ls n ∙ chain (flows ids (selves (length ids) (replicate BOXES 0)) ls n) _ _ (λ arrows ls n _.
      views_walk z ids v ls n ∙ chain (views ids z.states v ls n) _ _ (λ v ls n _. at_end_lem (drawn_as t arrows v) ls n)))

-- what was read does not matter
fin_same : {S T : Type 0} (g : Got S) (f : S → T) → fin g ≡ fin (on_got g (λ s ls n. got (f s) ls n))
unfolding fin
fin_same (got s [] n) f = refl
fin_same (got s (l ∷ ls) n) f = refl
fin_same (refused e n) f = refl

module _ (z : Sizes) (good : GoodSizes z) (t : Steps) (v : List ℕ) where
  parts_walk : (ls : List (List ℕ)) (n : ℕ) → walk (boxes_from z 0 (replicate BOXES 0)) ls n ≡ fin (parts z.states z.actions z.boxes t v ls n)
  unfolding parts
  parts_walk ls n =
      boxes_walk z ls n ∙ chain (boxes z.boxes ls n) _ _ (λ ids ls' n' e.
      let room : length (take z.boxes ids) ≡ z.boxes = length-take-le z.boxes ids (omega (arith, (ids_good z.boxes good.boxes_most ls n e).filled.room, good.boxes_most)) in
      let some : 0 < length (take z.boxes ids) * z.states = rw room (omega (arith, mul-le-mul good.boxes_some good.states_some)) in
      acts_walk z (take z.boxes ids) ls' n' ∙ chain (acts (take z.boxes ids) z.actions ls' n') _ _ (λ owners ls n _.
      drawing_walk z (take z.boxes ids) some t v ls n ∙ fin_same (drawing z.states z.actions (take z.boxes ids) t v ls n) (parts_as ids owners)))

judged_of : Reading → Judged
judged_of (model z p) = fine
judged_of (refusal e n) = refused_at e n

finished : (g : Got Parts) (z : Sizes) → fin g ≡ judged_of (finish g (model z))
unfolding fin judged_of
finished (got p [] n) z = refl
finished (got p (l ∷ ls) n) z = refl
finished (refused e n) z = refl

sheet_walk : (t : Steps) (v : List ℕ) (ls : List (List ℕ)) → walk at_sheet ls 1 ≡ judged_of (sheet_lines t v ls)
unfolding walk sheet_lines judged_of
sheet_walk t v [] = refl
sheet_walk t v (l ∷ ls) = rw (sym (by_rows_lem due.Sheet [] l)) (go (sheet_line l) refl)
  where
    go : (r : Record) → sheet_line l ≡ r → on_record r (λ a b c d. walk (after at_sheet l a b c d) ls 2) (λ e. refused_at e 1) ≡ judged_of (on_record r (λ a b c d. finish (parts a b c t v ls 2) (model (sizes_from a b c d))) (λ e. refusal e 1))
    go (Ok ns) q = parts_walk (sizes_from ns.first ns.second ns.third ns.fourth) (sheet_good l q) t v ls 2 ∙ finished (parts ns.first ns.second ns.third t v ls 2) (sizes_from ns.first ns.second ns.third ns.fourth)
    go (Err e) q = refl

-- the theorem
pub refused_means : (t : List ℕ) (e : Refusal) (n : ℕ) → sheet_text t ≡ refusal e n → RefusedText t e n
unfolding sheet_text judged_of
refused_means t e n h = go (sized SHEET_BYTES (length t) && eqb (get_or t (length t - 1) 0) 10) refl h
  where
    go : (u : Bool) → (sized SHEET_BYTES (length t) && eqb (get_or t (length t - 1) 0) 10) ≡ u
        → cond u (sheet_lines (steps (zeros NEXT_ENTRIES) (zeros OUTPUT_ENTRIES)) (zeros VIEW_ENTRIES) (lines t)) (refusal why.Text 0) ≡ refusal e n → RefusedText t e n
    go true q h = by_line q (meant at_sheet (lines t) 1 e n (sheet_walk (steps (zeros NEXT_ENTRIES) (zeros OUTPUT_ENTRIES)) (zeros VIEW_ENTRIES) (lines t) ∙ ap judged_of h))
    go false q h = let u : why.Text ≡ e = cc in let v : 0 ≡ n = cc in rw (← u, ← v) (whole q)

back : (r : Reading) (e : Refusal) (n : ℕ) → judged_of r ≡ refused_at e n → r ≡ refusal e n
unfolding judged_of
back (model z p) e n h = let d : ◌≡◌ {A = ℕ} 0 1 = cc in absurd (omega arith)
back (refusal e' n') e n h = cc

pub means_refused : (t : List ℕ) (e : Refusal) (n : ℕ) → RefusedText t e n → sheet_text t ≡ refusal e n
unfolding sheet_text
means_refused t e n (whole q) = rw q
means_refused t e n (by_line q r) = rw q (back (sheet_lines (steps (zeros NEXT_ENTRIES) (zeros OUTPUT_ENTRIES)) (zeros VIEW_ENTRIES) (lines t)) e n (sym (sheet_walk (steps (zeros NEXT_ENTRIES) (zeros OUTPUT_ENTRIES)) (zeros VIEW_ENTRIES) (lines t)) ∙ refuses at_sheet (lines t) 1 e n r))
