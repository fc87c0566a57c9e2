-- A text isn't refused exactly where it is printed from a sheet that keeps to the rules.
-- Assumes nothing.
use Rattle.sheet.specs.Numbers.{Record}
use Rattle.std.specs.Prelude.{Ok, Err, Some, None}
use mathlib.Core.Path.{◌≡◌, refl, sym, ap, ap₂, ◌∙◌, subst}
use mathlib.Core.List.{List, [], ◌∷◌, ◌++◌, append_assoc, append-nil}
use Prim.Native.Nat.{ℕ, zero, suc, ◌+◌, ◌<◌, ◌≤◌}
use native.Mathlib.Omega.{arith}
use lib.ListN.{length, set, take, length-set}
use Rattle.sheet.specs.declared.Arrows.TheVariants as flow
use Rattle.sheet.specs.Records.{Flow, position, box_line, flow_line, on_flow}
use Rattle.model.specs.Arrows.{drawn}
use Rattle.sheet.specs.Phases.{got, refused, flows}
use Rattle.demands.specs.Printed as paper
use Rattle.demands.specs.Printed.{Box, Drawn, Each, Boxes, Arrow, ids_of, box_row, arrow_row, rows_from}
use Rattle.demands.proofs.Phases.{glues, no_got, Follow, nexts}
use Rattle.demands.proofs.LineKinds.{BoxFits, flow_print, Drawing, Draws, flow_back}

-- ---- arrows, as many as there are
pub record Arrows (ids : List ℕ) (k : ℕ) (ls ls' : List (List ℕ)) : Type 0 where
  pub items : List Drawn
  pub good : Each (Arrow ids) items
  pub lines_are : ls ≡ glues (rows_from (λ _. arrow_row) k items) ++ ls'

pub flows_back : (ids : List ℕ) (k : ℕ) (arrows : List ℕ) (ls : List (List ℕ)) (n : ℕ) {arrows' : List ℕ} {ls' : List (List ℕ)} {n' : ℕ} →
    flows ids arrows ls n ≡ got arrows' ls' n' → Arrows ids k ls ls'
unfolding flows glues rows_from
flows_back ids k arrows [] n h = record { items = []; good = tt; lines_are = cc }
flows_back ids k arrows (l ∷ ls) n {arrows'} {ls'} {n'} h =
    go (flow_line ids l) (flow_back ids l) (λ a h. flows_back ids (suc k) a ls (suc n) h) h
  where
    more : {r : Flow} → Draws ids l r → Arrows ids (suc k) ls ls' → Arrows ids k (l ∷ ls) ls'
    more d a = record { items = d.x ∷ a.items; good = (d.good, a.good); lines_are = ap₂ (λ y ys. y ∷ ys) d.is a.lines_are }

    go : (r : Flow) → Drawing ids l r → ((a : List ℕ) → flows ids a ls (suc n) ≡ got arrows' ls' n' → Arrows ids (suc k) ls ls') →
        on_flow r (λ v u. flows ids (drawn v u arrows) ls (suc n)) (λ v u. flows ids (drawn u v (drawn v u arrows)) ls (suc n)) (λ e. refused e n) (got arrows (l ∷ ls) n)
        ≡ got arrows' ls' n' → Arrows ids k (l ∷ ls) ls'
    go (Ok (Some (flow.One v u))) d back h = more d (back _ h)
    go (Ok (Some (flow.Two v u))) d back h = more d (back _ h)
    go (Err e) d back h = no_got h
    go (Ok None) d back h = record { items = []; good = tt; lines_are = cc }

-- what arrows make of rows, one after the other
unfoldable pub draw_all : List ℕ → List ℕ → List Drawn → List ℕ
draw_all ids arrows [] = arrows
draw_all ids arrows (paper.flow i j ∷ xs) = draw_all ids (drawn (position ids i) (position ids j) arrows) xs
draw_all ids arrows (paper.both i j ∷ xs) = draw_all ids (drawn (position ids j) (position ids i) (drawn (position ids i) (position ids j) arrows)) xs

-- they end where a line draws nothing
pub flows_print : (ids : List ℕ) (k : ℕ) (xs : List Drawn) (arrows : List ℕ) (l : List ℕ) (ls : List (List ℕ)) (n : ℕ) → Each (Arrow ids) xs → flow_line ids l ≡ Ok None →
    (m : ℕ) × (flows ids arrows (glues (rows_from (λ _. arrow_row) k xs) ++ (l ∷ ls)) n ≡ got (draw_all ids arrows xs) (l ∷ ls) m)
unfolding flows glues rows_from draw_all
flows_print ids k [] arrows l ls n h e = (n, rw e refl)
flows_print ids k (paper.flow i j ∷ xs) arrows l ls n h e =
    let f = flows_print ids (suc k) xs (drawn (position ids i) (position ids j) arrows) l ls (suc n) h.1 e in (f.0, rw (flow_print ids (paper.flow i j) h.0) f.1)
flows_print ids k (paper.both i j ∷ xs) arrows l ls n h e =
    let f = flows_print ids (suc k) xs (drawn (position ids j) (position ids i) (drawn (position ids i) (position ids j) arrows)) l ls (suc n) h.1 e in (f.0, rw (flow_print ids (paper.both i j) h.0) f.1)

-- ---- boxes: the ids that the reader has stored are those of the boxes so far
abbrev pub boxes_line : ℕ → List ℕ → List ℕ → Record
boxes_line k ids = box_line (take k ids)

abbrev pub store_box : ℕ → List ℕ → ℕ → ℕ → ℕ → ℕ → List ℕ
store_box k ids id _ _ _ = set ids k id

abbrev pub next_box : ℕ → List ℕ → Box → List ℕ
next_box k ids x = set ids k x.id

abbrev pub BoxAt : ℕ → List ℕ → Box → Type 0
BoxAt k ids x = BoxFits (take k ids) x

abbrev pub FollowBoxes : ℕ → List ℕ → List Box → Type 0
FollowBoxes = Follow boxes_line store_box (λ _. box_row) next_box BoxAt

abbrev pub boxes_end : ℕ → List ℕ → List Box → List ℕ
boxes_end = nexts boxes_line store_box (λ _. box_row) next_box BoxAt

take_set : (s : List ℕ) (k v : ℕ) → k < length s → take (suc k) (set s k v) ≡ take k s ++ (v ∷ [])
take_set [] k v l = absurd (omega arith)
take_set (x ∷ xs) zero v l = refl
take_set (x ∷ xs) (suc k) v l = ap (λ r. x ∷ r) (take_set xs k v (omega arith))

pub boxes_follow : (k : ℕ) (s : List ℕ) (xs : List Box) → k + length xs ≤ length s → FollowBoxes k s xs → Boxes (take k s) xs
boxes_follow k s [] l h = tt
boxes_follow k s (x ∷ xs) l h =
    (h.0, subst (λ b. Boxes b xs) (take_set s k x.id (omega arith)) (boxes_follow (suc k) (set s k x.id) xs (let e = length-set s k x.id in omega arith) h.1))

pub follow_boxes : (k : ℕ) (s : List ℕ) (xs : List Box) → k + length xs ≤ length s → Boxes (take k s) xs → FollowBoxes k s xs
follow_boxes k s [] l h = tt
follow_boxes k s (x ∷ xs) l h =
    (h.0, follow_boxes (suc k) (set s k x.id) xs (let e = length-set s k x.id in omega arith) (subst (λ b. Boxes b xs) (sym (take_set s k x.id (omega arith))) h.1))

pub ids_are : (k : ℕ) (s : List ℕ) (xs : List Box) → k + length xs ≤ length s → take (k + length xs) (boxes_end k s xs) ≡ take k s ++ ids_of xs
unfolding nexts ids_of
ids_are k s [] l = let e : k + 0 ≡ k = omega arith in ap (λ n. take n s) e ∙ sym (append-nil (take k s))
ids_are k s (x ∷ xs) l =
    let e : k + suc (length xs) ≡ suc k + length xs = omega arith in
    ap (λ n. take n (boxes_end (suc k) (set s k x.id) xs)) e
    ∙ ids_are (suc k) (set s k x.id) xs (let e = length-set s k x.id in omega arith)
    ∙ ap (λ r. r ++ ids_of xs) (take_set s k x.id (omega arith)) ∙ append_assoc (take k s) (x.id ∷ []) (ids_of xs)
