-- A text that is not refused gives a model that keeps to the rules. Assumes nothing.
use Rattle.std.specs.Prelude.{Ok, Err, Some, None}
use Prim.Native.Nat.{ℕ, suc, ◌*◌, ◌/◌, ◌%◌, ◌<◌, ◌≤◌}
use mathlib.Core.Path.{◌≡◌, refl, sym, ap, ◌∙◌}
use mathlib.Core.List.{List, [], ◌∷◌}
use mathlib.Core.Bool.{true, false}
use mathlib.Core.Logic.{inl, inr, ⊎_elim}
use native.Mathlib.Omega.{arith}
use native.Mathlib.Decide.{dec_lt}
use native.Mathlib.Nat.{mul-le-mul}
use borrow.Author.Tests.{ltb-true, ltb-false, lt-ltb, eq-eqb, eqb-true}
use lib.ListN.{length, get_or, take, set, replicate, length-set, length-replicate, get_or-replicate, get_or-eq_default}
use lib.Seq.{get_or-set_same, get_or-set_other, get_or-take, length-take-le}
use Rattle.laws.specs.Choice.{both, either}
use Rattle.laws.proofs.Tests.{both_of, both_true, either_true, either_right}
use lib.Dec.{eqb}
use Rattle.model.specs.Arrows.{leads, drawn, selves}
use Rattle.model.proofs.Arrows.{drawn_length, drawn_at, selves_length, selves_at}
use Rattle.model.specs.Good.{GoodSizes}
use Rattle.model.specs.declared.Sizes.{Sizes}
use Rattle.model.specs.Limits.{STATES, ACTIONS, BOXES, NEXT_ENTRIES, OUTPUT_ENTRIES, VIEW_ENTRIES, LARGEST_ID, LARGEST_NUMBER}
use Rattle.text.proofs.Parts.{before_hit}
use Rattle.sheet.specs.declared.Arrows.TheVariants.{One, Two}
use Rattle.sheet.specs.Records.{Flow, position, known, box_line, act_line, go_line, view_line, flow_line, on_flow}
use Rattle.sheet.specs.Phases.{got, refused, boxes, acts, goes, Steps, steps, flows, views}
use Rattle.sheet.specs.Reading.{zeros, Drawn, drawn_as, drawing, Parts, parts_as, parts, model, sheet_text}
use Rattle.sheet.proofs.Good.{sheet_good, box_good, act_good, go_good, view_good, flow_good}
use Rattle.sheet.proofs.Inside.{first_of_lem, kept, inside, no_got}
use Rattle.sheet.proofs.First.{zeros_length}

-- the first k entries of a table keep to a rule, and the others are 0
pub record Filled (size : ℕ) (rule : ℕ → Type 0) (k : ℕ) (table : List ℕ) : Type 0 where
  pub room : length table ≡ size
  pub each : (i : ℕ) → i < k → rule (get_or table i 0)
  pub beyond : (i : ℕ) → k ≤ i → get_or table i 0 ≡ 0

module _ {size : ℕ} {rule : ℕ → Type 0} where
  pub filled_none : (table : List ℕ) → length table ≡ size → ((i : ℕ) → get_or table i 0 ≡ 0) → Filled size rule 0 table
  filled_none table r z = record { room = r; each = λ i h. absurd (omega arith); beyond = λ i h. z i }

  pub filled_more : {k : ℕ} {table : List ℕ} (v : ℕ) → k < size → rule v → Filled size rule k table → Filled size rule (suc k) (set table k v)
  filled_more {k} {table} v h r f = record { room = length-set table k v ∙ f.room; each = each; beyond = λ i g. get_or-set_other table k i v 0 (λ e. omega arith) ∙ f.beyond i (omega arith) }
    where
      each : (i : ℕ) → i < suc k → rule (get_or (set table k v) i 0)
      each i g = go (dec_lt i k)
        where
          go : Dec (i < k) → rule (get_or (set table k v) i 0)
          go (yes l) = rw (get_or-set_other table k i v 0 (λ e. omega arith)) (f.each i l)
          go (no l) = let e : i ≡ k = omega arith in rw (e, get_or-set_same table k v 0 (omega (arith, f.room))) r

-- ids that are filled in, no two of them the same
pub record Ids (k : ℕ) (ids : List ℕ) : Type 0 where
  pub filled : Filled BOXES (λ id. id ≤ LARGEST_ID) k ids
  pub apart : (i j : ℕ) → i < j → j < k → get_or ids i 0 ≡ get_or ids j 0 → ⊥

-- an id that is not known is none of them
unknown : (ids : List ℕ) (id : ℕ) → known ids id ≡ false → (i : ℕ) → i < length ids → get_or ids i 0 ≡ id → ⊥
unknown ids id h i g e = omega (arith, ltb-false (position ids id) (length ids) h, before_hit id ids i g e)

ids_more : (k : ℕ) (ids : List ℕ) (id : ℕ) → k < BOXES → Ids k ids → id ≤ LARGEST_ID → known (take k ids) id ≡ false → Ids (suc k) (set ids k id)
ids_more k ids id h p s f = record { filled = filled_more id h s p.filled; apart = apart }
  where
    fresh : (i : ℕ) → i < k → get_or ids i 0 ≡ id → ⊥
    fresh i g e = unknown (take k ids) id f i (omega (arith, length-take-le k ids (omega (arith, p.filled.room)))) (get_or-take k ids i 0 g ∙ e)

    apart : (i j : ℕ) → i < j → j < suc k → get_or (set ids k id) i 0 ≡ get_or (set ids k id) j 0 → ⊥
    apart i j g l e = go (dec_lt j k)
      where
        low : get_or (set ids k id) i 0 ≡ get_or ids i 0
        low = get_or-set_other ids k i id 0 (λ z. omega arith)

        go : Dec (j < k) → ⊥
        go (yes m) = p.apart i j g m (sym low ∙ e ∙ get_or-set_other ids k j id 0 (λ z. omega arith))
        go (no m) =
            let z : j ≡ k = omega arith in
            fresh i (omega arith) (sym low ∙ e ∙ ap (λ (x : ℕ). get_or (set ids k id) x 0) z ∙ get_or-set_same ids k id 0 (omega (arith, p.filled.room)))

zero_there : (n i : ℕ) → ◌≡◌ {A = ℕ} (get_or (zeros n) i 0) 0
unfolding zeros
zero_there n i = go (dec_lt i n)
  where
    go : Dec (i < n) → ◌≡◌ {A = ℕ} (get_or (replicate n 0) i 0) 0
    go (yes h) = get_or-replicate n i 0 0 h
    go (no h) = get_or-eq_default (replicate n 0) 0 {n = i} (omega (arith, length-replicate {A = ℕ} n 0))

blank : (n i : ℕ) → ◌≡◌ {A = ℕ} (get_or (replicate n 0) i 0) 0
unfolding zeros
blank n i = zero_there n i

pub ids_good : (count : ℕ) → count ≤ BOXES → (ls : List (List ℕ)) (n : ℕ) {ids : List ℕ} {ls' : List (List ℕ)} {n' : ℕ} → boxes count ls n ≡ got ids ls' n' → Ids count ids
ids_good count c ls n h =
    kept (λ k ids. box_line (take k ids)) (λ k ids id _ _ _. set ids k id) Ids count
    (λ k ids l a b c' d g p e. let w = box_good (take k ids) l e in ids_more k ids a (omega arith) p w.small w.fresh)
    count 0 (replicate BOXES 0) ls n (omega arith)
    (record { filled = filled_none (replicate BOXES 0) refl (blank BOXES); apart = λ i j g l e. omega arith }) h

pub owners_good : (ids : List ℕ) (count : ℕ) → count ≤ ACTIONS → (ls : List (List ℕ)) (n : ℕ) {owners : List ℕ} {ls' : List (List ℕ)} {n' : ℕ} → acts ids count ls n ≡ got owners ls' n' → Filled ACTIONS (λ box. box < length ids) count owners
owners_good ids count c ls n h =
    kept (λ k _. act_line ids) (λ k owners box _ _ _. set owners k box) (Filled ACTIONS (λ box. box < length ids)) count
    (λ k owners l a b c' d g p e. filled_more a (omega arith) (act_good ids l e) p)
    count 0 (replicate ACTIONS 0) ls n (omega arith) (filled_none (replicate ACTIONS 0) refl (blank ACTIONS)) h

-- both tables of a machine's steps
pub record Stepped (states k : ℕ) (t : Steps) : Type 0 where
  pub next : Filled NEXT_ENTRIES (λ s. s < states) k t.next
  pub outputs : Filled OUTPUT_ENTRIES (λ o. o ≤ LARGEST_NUMBER) k t.outputs

pub steps_good : (states actions : ℕ) → states * actions ≤ NEXT_ENTRIES → (ls : List (List ℕ)) (n : ℕ) {t : Steps} {ls' : List (List ℕ)} {n' : ℕ} → goes states actions (steps (zeros NEXT_ENTRIES) (zeros OUTPUT_ENTRIES)) ls n ≡ got t ls' n' → Stepped states (states * actions) t
steps_good states actions c ls n h =
    kept (λ k _. go_line states (k / actions) (k % actions)) (λ k t _ _ next output. steps (set t.next k next) (set t.outputs k output)) (Stepped states) (states * actions)
    (λ k t l a b z o g p e. let w = go_good states (k / actions) (k % actions) l e in record { next = filled_more z (omega arith) w.0 p.next; outputs = filled_more o (omega arith) w.1 p.outputs })
    (states * actions) 0 (steps (zeros NEXT_ENTRIES) (zeros OUTPUT_ENTRIES)) ls n (omega arith)
    (record { next = filled_none (zeros NEXT_ENTRIES) (zeros_length NEXT_ENTRIES) (zero_there NEXT_ENTRIES); outputs = filled_none (zeros OUTPUT_ENTRIES) (zeros_length OUTPUT_ENTRIES) (zero_there OUTPUT_ENTRIES) }) h

pub views_good : (ids : List ℕ) (states : ℕ) → length ids * states ≤ VIEW_ENTRIES → (ls : List (List ℕ)) (n : ℕ) {v : List ℕ} {ls' : List (List ℕ)} {n' : ℕ} → views ids states (zeros VIEW_ENTRIES) ls n ≡ got v ls' n' → Filled VIEW_ENTRIES (λ class. class ≤ LARGEST_NUMBER) (length ids * states) v
views_good ids states c ls n h =
    kept (λ k _. view_line (get_or ids (k / states) 0) (k % states)) (λ k t _ _ class _. set t k class) (Filled VIEW_ENTRIES (λ class. class ≤ LARGEST_NUMBER)) (length ids * states)
    (λ k t l a b z d g p e. filled_more z (omega arith) (view_good (get_or ids (k / states) 0) (k % states) l e) p)
    (length ids * states) 0 (zeros VIEW_ENTRIES) ls n (omega arith) (filled_none (zeros VIEW_ENTRIES) (zeros_length VIEW_ENTRIES) (zero_there VIEW_ENTRIES)) h

-- arrows: the self-arrows of the first n boxes, and no box beyond the first m
pub record Arrowed (n m : ℕ) (arrows : List ℕ) : Type 0 where
  pub room : length arrows ≡ BOXES
  pub selves : (i : ℕ) → i < n → leads arrows i i ≡ true
  pub within : (v u : ℕ) → v < BOXES → leads arrows v u ≡ true → (v < m) × (u < m)

pub arrow_more_lem : {n m : ℕ} {arrows : List ℕ} → Arrowed n m arrows → (v u : ℕ) → v < m → u < m → m ≤ BOXES → Arrowed n m (drawn v u arrows)
arrow_more_lem {n} {m} {arrows} p v u h g few = record {
  room = drawn_length v u arrows ∙ p.room;
  selves = λ i l. at i i ∙ either_right _ (p.selves i l);
  within = λ x y a t. ⊎_elim (λ e. inner x y (both_true _ _ e)) (p.within x y a) (either_true _ _ (sym (at x y) ∙ t));
}
  where
    at : (x y : ℕ) → leads (drawn v u arrows) x y ≡ either (both (eqb v x) (eqb u y)) (leads arrows x y)
    at x y = drawn_at v u arrows (omega (arith, p.room)) x y

    inner : (x y : ℕ) → (eqb v x ≡ true) × (eqb u y ≡ true) → (x < m) × (y < m)
    inner x y e = let i : v ≡ x = eqb-true v x e.0 in let j : u ≡ y = eqb-true u y e.1 in (omega arith, omega arith)

selves_good : (k : ℕ) → k ≤ BOXES → Arrowed k k (selves k (replicate BOXES 0))
selves_good k h = record {
  room = selves_length k (replicate BOXES 0) ∙ length-replicate {A = ℕ} BOXES 0;
  selves = λ i l. selves_at k BOXES h i i ∙ both_of (lt-ltb i k l) (eq-eqb i i refl);
  within = λ v u a t.
      let e = both_true _ _ (sym (selves_at k BOXES h v u) ∙ t) in
      let l = ltb-true v k e.0 in
      let q : v ≡ u = eqb-true v u e.1 in
      (l, omega arith);
}

arrows_kept : (ids : List ℕ) → length ids ≤ BOXES → (n : ℕ) (arrows : List ℕ) (ls : List (List ℕ)) (k : ℕ) {arrows' : List ℕ} {ls' : List (List ℕ)} {k' : ℕ}
    → Arrowed n (length ids) arrows → flows ids arrows ls k ≡ got arrows' ls' k' → Arrowed n (length ids) arrows'
unfolding flows
arrows_kept ids c n arrows [] k {arrows'} p h = let e : arrows ≡ arrows' = cc in rw (← e) p
arrows_kept ids c n arrows (l ∷ ls) k {arrows'} {ls'} {k'} p h = go (λ a p h. arrows_kept ids c n a ls (suc k) p h) (flow_line ids l) refl h
  where
    go : ((a : List ℕ) → Arrowed n (length ids) a → flows ids a ls (suc k) ≡ got arrows' ls' k' → Arrowed n (length ids) arrows')
        → (f : Flow) → flow_line ids l ≡ f
        → on_flow f (λ v u. flows ids (drawn v u arrows) ls (suc k)) (λ v u. flows ids (drawn u v (drawn v u arrows)) ls (suc k)) (λ e. refused e k) (got arrows (l ∷ ls) k) ≡ got arrows' ls' k'
        → Arrowed n (length ids) arrows'
    go r (Ok (Some (One v u))) q h = let w = flow_good ids l v u (inl q) in r (drawn v u arrows) (arrow_more_lem p v u w.0 w.1 c) h
    go r (Ok (Some (Two v u))) q h = let w = flow_good ids l v u (inr q) in r (drawn u v (drawn v u arrows)) (arrow_more_lem (arrow_more_lem p v u w.0 w.1 c) u v w.1 w.0 c) h
    go r (Err e) q h = no_got h
    go r (Ok None) q h = let e : arrows ≡ arrows' = cc in rw (← e) p

pub arrows_good : (ids : List ℕ) → length ids ≤ BOXES → (ls : List (List ℕ)) (k : ℕ) {arrows : List ℕ} {ls' : List (List ℕ)} {k' : ℕ} → flows ids (selves (length ids) (replicate BOXES 0)) ls k ≡ got arrows ls' k' → Arrowed (length ids) (length ids) arrows
arrows_good ids c ls k h = arrows_kept ids c (length ids) (selves (length ids) (replicate BOXES 0)) ls k (selves_good (length ids) c) h

-- the tables and the arrows
pub record SoundDrawn (states actions count : ℕ) (d : Drawn) : Type 0 where
  pub steps : Stepped states (states * actions) d.steps
  pub arrows : Arrowed count count d.arrows
  pub views : Filled VIEW_ENTRIES (λ class. class ≤ LARGEST_NUMBER) (count * states) d.views

drawn_good : (states actions : ℕ) (ids : List ℕ) (ls : List (List ℕ)) (n : ℕ) {d : Drawn} {ls' : List (List ℕ)} {n' : ℕ} → states ≤ STATES → actions ≤ ACTIONS → length ids ≤ BOXES
    → drawing states actions ids (steps (zeros NEXT_ENTRIES) (zeros OUTPUT_ENTRIES)) (zeros VIEW_ENTRIES) ls n ≡ got d ls' n' → SoundDrawn states actions (length ids) d
unfolding drawing
drawn_good states actions ids ls n {d} s a c h =
    let g = first_of_lem (goes states actions (steps (zeros NEXT_ENTRIES) (zeros OUTPUT_ENTRIES)) ls n) h in
    let f = first_of_lem (flows ids (selves (length ids) (replicate BOXES 0)) g.left g.number) g.then in
    let v = first_of_lem (views ids states (zeros VIEW_ENTRIES) f.left f.number) f.then in
    let e : drawn_as g.what f.what v.what ≡ d = cc v.then in
    rw (← e) (record {
      steps = steps_good states actions (mul-le-mul s a) ls n g.is;
      arrows = arrows_good ids c g.left g.number f.is;
      views = views_good ids states (mul-le-mul c s) f.left f.number v.is;
    })

-- what the reader gives keeps to every rule for a model
pub record Sound (z : Sizes) (p : Parts) : Type 0 where
  pub sizes : GoodSizes z
  pub ids : Ids z.boxes p.ids
  pub owners : Filled ACTIONS (λ box. box < z.boxes) z.actions p.owners
  pub drawn : SoundDrawn z.states z.actions z.boxes p.drawn

parts_good : (z : Sizes) (ls : List (List ℕ)) (n : ℕ) {p : Parts} {ls' : List (List ℕ)} {n' : ℕ} → GoodSizes z
    → parts z.states z.actions z.boxes (steps (zeros NEXT_ENTRIES) (zeros OUTPUT_ENTRIES)) (zeros VIEW_ENTRIES) ls n ≡ got p ls' n' → Sound z p
unfolding parts
parts_good z ls n {p} g h =
    let b = first_of_lem (boxes z.boxes ls n) h in
    let i = ids_good z.boxes g.boxes_most ls n b.is in
    let l : length (take z.boxes b.what) ≡ z.boxes = length-take-le z.boxes b.what (omega (arith, i.filled.room, g.boxes_most)) in
    let a = first_of_lem (acts (take z.boxes b.what) z.actions b.left b.number) b.then in
    let d = first_of_lem (drawing z.states z.actions (take z.boxes b.what) (steps (zeros NEXT_ENTRIES) (zeros OUTPUT_ENTRIES)) (zeros VIEW_ENTRIES) a.left a.number) a.then in
    let e : parts_as b.what a.what d.what ≡ p = cc d.then in
    let o : Filled ACTIONS (λ box. box < z.boxes) z.actions a.what = (rw l at (owners_good (take z.boxes b.what) z.actions g.actions_most b.left b.number a.is)) in
    let w : SoundDrawn z.states z.actions z.boxes d.what = (rw l at (drawn_good z.states z.actions (take z.boxes b.what) a.left a.number g.states_most g.actions_most (omega (arith, l, g.boxes_most)) d.is)) in
    rw (← e) (record { sizes = g; ids = i; owners = o; drawn = w })

pub sound : (t : List ℕ) {z : Sizes} {p : Parts} → sheet_text t ≡ model z p → Sound z p
sound t {z} h =
    let i = inside t h in
    parts_good z i.others 2 (sheet_good i.first i.sizes) i.body
