-- What a good line says: its numbers keep to the rules. Assumes nothing.
use Rattle.model.specs.declared.refusal.Refusal.{Refusal}
use Rattle.model.specs.declared.refusal.Refusal.TheVariants as why
use Rattle.std.specs.Prelude.{Ok, Err, Option, Some, None}
use Prim.Native.Nat.{ℕ, zero, suc, ◌+◌, ◌<◌, ◌≤◌, zero-le}
use mathlib.Core.Path.{ap, ◌≡◌, refl}
use mathlib.Core.List.{List, [], ◌∷◌}
use mathlib.Core.Bool.{Bool, true, false, cond, ◌&&◌}
use mathlib.Core.Logic.{◌⊎◌, inl, inr}
use native.Mathlib.Omega.{arith}
use native.Mathlib.Nat.{add-zero, zero-add, le_refl, le_trans}
use borrow.Author.Tests.{ltb-true, leb-true, eqb-true}
use lib.ListN.{length, get_or, set, replicate}
use lib.Dec.{ltb, leb, eqb}
use Rattle.model.specs.Limits.{STATES, ACTIONS, BOXES, LARGEST_ID, LARGEST_NUMBER}
use Rattle.model.specs.Made.{sizes_from}
use Rattle.model.specs.Good.{GoodSizes}
use Rattle.text.specs.Number.{number, on_number}
use Rattle.text.specs.Lines.{same}
use Rattle.text.proofs.Digits.{number_limit}
use Rattle.sheet.specs.declared.Arrows.TheVariants as flow
use Rattle.sheet.specs.Words as words
use Rattle.sheet.specs.Numbers.{Record, said, on_record, four, each, numbers, word, rest, record_of}
use Rattle.sheet.specs.Records.{sized, known, position, label_good, box_of, sheet_line, box_line, act_line, go_line, arrow_line, view_line, flow_line}

-- two records that are the same have the same numbers
pub record SameNumbers (a b c d x y z w : ℕ) : Type 0 where
  pub first : a ≡ x
  pub second : b ≡ y
  pub third : c ≡ z
  pub fourth : d ≡ w

pub same_numbers : {a b c d x y z w : ℕ} → said a b c d ≡ said x y z w → SameNumbers a b c d x y z w
same_numbers h = record {
  first = ap (λ (r : Record). on_record r (λ a b c d. a) (λ e. 0)) h;
  second = ap (λ (r : Record). on_record r (λ a b c d. b) (λ e. 0)) h;
  third = ap (λ (r : Record). on_record r (λ a b c d. c) (λ e. 0)) h;
  fourth = ap (λ (r : Record). on_record r (λ a b c d. d) (λ e. 0)) h;
}

-- a refused record is no good one
no_numbers : {A : Type 0} {e : Refusal} {a b c d : ℕ} → Err e ≡ said a b c d → A
no_numbers h = let z : ◌≡◌ {A = ℕ} 0 1 = cc in absurd (omega arith)

-- where a test decides between a record and a refusal, a good one has passed it
pub passed : (t : Bool) (e : Refusal) {r : Record} {a b c d : ℕ} → cond t r (Err e) ≡ said a b c d → (t ≡ true) × (r ≡ said a b c d)
passed true e h = (refl, h)
passed false e h = no_numbers h

pub kept_out : (t : Bool) (e : Refusal) {r : Record} {a b c d : ℕ} → cond t (Err e) r ≡ said a b c d → (t ≡ false) × (r ≡ said a b c d)
kept_out true e h = no_numbers h
kept_out false e h = (refl, h)

pub both_true : (s t : Bool) → (s && t) ≡ true → (s ≡ true) × (t ≡ true)
both_true true t h = (refl, h)
both_true false t h = let z : ◌≡◌ {A = ℕ} 0 1 = cc in absurd (omega arith)

-- what was made of numbers had them
pub record Made (r : Record) (f : ℕ → ℕ → ℕ → ℕ → Record) (a b c d : ℕ) : Type 0 where
  pub x : ℕ
  pub y : ℕ
  pub z : ℕ
  pub w : ℕ
  pub is : r ≡ said x y z w
  pub then : f x y z w ≡ said a b c d

pub made : (r : Record) {f : ℕ → ℕ → ℕ → ℕ → Record} {a b c d : ℕ} → on_record r f Err ≡ said a b c d → Made r f a b c d
made (Ok ns) h = record { x = ns.first; y = ns.second; z = ns.third; w = ns.fourth; is = refl; then = h }
made (Err e) h = no_numbers h

-- the four numbers are at most what bounds their places
pub record Bounded (bound : ℕ → ℕ) (a b c d : ℕ) : Type 0 where
  pub first : a ≤ bound 0
  pub second : b ≤ bound 1
  pub third : c ≤ bound 2
  pub fourth : d ≤ bound 3

set_bounded : (bound : ℕ → ℕ) (vs : List ℕ) (k v : ℕ) → ((j : ℕ) → get_or vs j 0 ≤ bound j) → v ≤ bound k → (j : ℕ) → get_or (set vs k v) j 0 ≤ bound j
set_bounded bound [] k v h g j = h j
set_bounded bound (x ∷ xs) zero v h g zero = g
set_bounded bound (x ∷ xs) zero v h g (suc j) = h (suc j)
set_bounded bound (x ∷ xs) (suc k) v h g zero = h zero
set_bounded bound (x ∷ xs) (suc k) v h g (suc j) = set_bounded (λ i. bound (suc i)) xs k v (λ i. h (suc i)) g j

four_bounded : (bound : ℕ → ℕ) (vs : List ℕ) {a b c d : ℕ} → ((j : ℕ) → get_or vs j 0 ≤ bound j) → four vs ≡ said a b c d → Bounded bound a b c d
four_bounded bound vs {a} {b} {c} {d} h e =
    let p : get_or vs 0 0 ≡ a = (same_numbers e).first in
    let q : get_or vs 1 0 ≡ b = (same_numbers e).second in
    let r : get_or vs 2 0 ≡ c = (same_numbers e).third in
    let s : get_or vs 3 0 ≡ d = (same_numbers e).fourth in
    record { first = rw (← p) (h 0); second = rw (← q) (h 1); third = rw (← r) (h 2); fourth = rw (← s) (h 3) }

suc_plus : (k j : ℕ) → k + suc j ≡ suc k + j
suc_plus k j = omega arith

each_bounded : (bound : ℕ → ℕ) (ms : List ℕ) (fs : List (List ℕ)) (k : ℕ) (vs : List ℕ) {a b c d : ℕ}
    → ((j : ℕ) → get_or vs j 0 ≤ bound j) → ((j : ℕ) → get_or ms j 0 ≤ bound (k + j)) → each ms fs k vs ≡ said a b c d → Bounded bound a b c d
unfolding each
each_bounded bound [] fs k vs h g e = four_bounded bound vs h e
each_bounded bound (m ∷ ms) [] k vs h g e = no_numbers e
each_bounded bound (m ∷ ms) (f ∷ fs) k vs {a} {b} {c} {d} h g e = go (λ k vs h g e. each_bounded bound ms fs k vs h g e) (number m f) refl e
  where
    go : ((k : ℕ) (vs : List ℕ) → ((j : ℕ) → get_or vs j 0 ≤ bound j) → ((j : ℕ) → get_or ms j 0 ≤ bound (k + j)) → each ms fs k vs ≡ said a b c d → Bounded bound a b c d)
        → (n : Option ℕ) → number m f ≡ n → on_number n (λ v. each ms fs (suc k) (set vs k v)) (Err why.Number) ≡ said a b c d → Bounded bound a b c d
    go i None q e = no_numbers e
    go i (Some v) q e =
        let here : m ≤ bound k = (rw add-zero at (g 0)) in
        i (suc k) (set vs k v) (set_bounded bound vs k v h (le_trans (number_limit m f v q) here)) (λ j. (rw (suc_plus k j) at (g (suc j)))) e

-- a record's numbers are at most their limits, and 0 beyond them
pub record_bounded : (w ms l : List ℕ) {a b c d : ℕ} → record_of w ms l ≡ said a b c d → Bounded (λ j. get_or ms j 0) a b c d
unfolding record_of numbers
record_bounded w ms l h =
    let p = passed (same (word l) w) why.Record h in
    let q = passed (eqb (length (rest l)) (length ms)) why.Fields p.1 in
    each_bounded (λ j. get_or ms j 0) ms (rest l) 0 (replicate 4 0) zeros (λ j. rw zero-add (le_refl _)) q.1
  where
    zeros : (j : ℕ) → get_or (replicate 4 0) j 0 ≤ get_or ms j 0
    zeros zero = zero-le
    zeros (suc zero) = zero-le
    zeros (suc (suc zero)) = zero-le
    zeros (suc (suc (suc zero))) = zero-le
    zeros (suc (suc (suc (suc j)))) = zero-le

-- the sizes and the start of a good `sheet` line
sized_good : (most n : ℕ) → sized most n ≡ true → (0 < n) × (n ≤ most)
sized_good most n h = let p = both_true (ltb 0 n) (leb n most) h in (ltb-true 0 n p.0, leb-true n most p.1)

pub sheet_good : (l : List ℕ) {a b c d : ℕ} → sheet_line l ≡ said a b c d → GoodSizes (sizes_from a b c d)
unfolding sheet_line
sheet_good l {a} {b} {c} {d} h =
    let m = made (record_of words.sheet (LARGEST_NUMBER ∷ LARGEST_NUMBER ∷ LARGEST_NUMBER ∷ LARGEST_NUMBER ∷ []) l) h in
    let p = passed (sized STATES m.x && sized ACTIONS m.y && sized BOXES m.z) why.Size m.then in
    let q = passed (ltb m.w m.x) why.Order p.1 in
    let u = both_true (sized STATES m.x && sized ACTIONS m.y) (sized BOXES m.z) p.0 in
    let v = both_true (sized STATES m.x) (sized ACTIONS m.y) u.0 in
    let e : m.x ≡ a = (same_numbers q.1).first in
    let f : m.y ≡ b = (same_numbers q.1).second in
    let g : m.z ≡ c = (same_numbers q.1).third in
    let k : m.w ≡ d = (same_numbers q.1).fourth in
    let i = sized_good STATES m.x v.0 in
    let j = sized_good ACTIONS m.y v.1 in
    let o = sized_good BOXES m.z u.1 in
    let s = ltb-true m.w m.x q.0 in
    record {
      states_some = omega arith;
      states_most = omega arith;
      actions_some = omega arith;
      actions_most = omega arith;
      boxes_some = omega arith;
      boxes_most = omega arith;
      start_in = omega arith;
    }

-- a good `act` line names a box
pub act_good : (ids l : List ℕ) {a b c d : ℕ} → act_line ids l ≡ said a b c d → a < length ids
unfolding act_line
act_good ids l {a} h =
    let m = made (record_of words.act (LARGEST_ID ∷ []) l) h in
    let p = passed (known ids m.x) why.UnknownId m.then in
    let e : position ids m.x ≡ a = (same_numbers p.1).first in
    omega (arith, ltb-true (position ids m.x) (length ids) p.0)

-- a good `go` line has a next state of the model, and an output
pub go_good : (states state action : ℕ) (l : List ℕ) {a b c d : ℕ} → go_line states state action l ≡ said a b c d → (c < states) × (d ≤ LARGEST_NUMBER)
unfolding go_line
go_good states state action l {a} {b} {c} {d} h =
    let limits : List ℕ = LARGEST_NUMBER ∷ LARGEST_NUMBER ∷ LARGEST_NUMBER ∷ LARGEST_NUMBER ∷ [] in
    let m = made (record_of words.go limits l) h in
    let p = passed (eqb m.x state && eqb m.y action && ltb m.z states) why.Order m.then in
    let q = both_true (eqb m.x state && eqb m.y action) (ltb m.z states) p.0 in
    let e : m.z ≡ c = (same_numbers p.1).third in
    let f : m.w ≡ d = (same_numbers p.1).fourth in
    (omega (arith, ltb-true m.z states q.1), rw (← f) (record_bounded words.go limits l m.is).fourth)

-- a good `view` line has a class
pub view_good : (id state : ℕ) (l : List ℕ) {a b c d : ℕ} → view_line id state l ≡ said a b c d → c ≤ LARGEST_NUMBER
unfolding view_line
view_good id state l {a} {b} {c} {d} h =
    let limits : List ℕ = LARGEST_ID ∷ LARGEST_NUMBER ∷ LARGEST_NUMBER ∷ [] in
    let m = made (record_of words.view limits l) h in
    let p = passed (eqb m.x id) why.UnknownId m.then in
    let q = passed (eqb m.y state) why.Order p.1 in
    let f : m.z ≡ c = (same_numbers q.1).third in
    rw (← f) (record_bounded words.view limits l m.is).third

-- a good `flow` or `both` line names two boxes
pub arrow_good : (w ids l : List ℕ) {a b c d : ℕ} → arrow_line w ids l ≡ said a b c d → (a < length ids) × (b < length ids)
unfolding arrow_line
arrow_good w ids l {a} {b} h =
    let m = made (record_of w (LARGEST_ID ∷ LARGEST_ID ∷ []) l) h in
    let p = passed (known ids m.x && known ids m.y) why.UnknownId m.then in
    let q = both_true (known ids m.x) (known ids m.y) p.0 in
    let e : position ids m.x ≡ a = (same_numbers p.1).first in
    let f : position ids m.y ≡ b = (same_numbers p.1).second in
    (omega (arith, ltb-true (position ids m.x) (length ids) q.0), omega (arith, ltb-true (position ids m.y) (length ids) q.1))

-- a good `box` line has an id that is not known yet, and a good label
pub record Boxed (ids l : List ℕ) (id : ℕ) : Type 0 where
  pub small : id ≤ LARGEST_ID
  pub fresh : known ids id ≡ false
  pub three : length (rest l) ≡ 2
  pub label : label_good (get_or (rest l) 1 []) ≡ true

pub box_good : (ids l : List ℕ) {a b c d : ℕ} → box_line ids l ≡ said a b c d → Boxed ids l a
unfolding box_line
box_good ids l {a} {b} {c} {d} h =
    let p = passed (same (word l) words.box) why.Record h in
    let q = passed (eqb (length (rest l)) 2) why.Fields p.1 in
    go (number LARGEST_ID (get_or (rest l) 0 [])) refl (eqb-true _ _ q.0) q.1
  where
    go : (n : Option ℕ) → number LARGEST_ID (get_or (rest l) 0 []) ≡ n → length (rest l) ≡ 2 → box_of ids n (get_or (rest l) 1 []) ≡ said a b c d → Boxed ids l a
    go None q t h = no_numbers h
    go (Some id) q t h =
        let u = kept_out (known ids id) why.SameId h in
        let v = passed (label_good (get_or (rest l) 1 [])) why.Label u.1 in
        let e : id ≡ a = (same_numbers v.1).first in
        rw (← e) (record { small = number_limit LARGEST_ID _ id q; fresh = u.0; three = t; label = v.0 })

-- so do the arrows of `flow_line`
pub flow_good : (ids l : List ℕ) (v u : ℕ) → (flow_line ids l ≡ Ok (Some (flow.One v u))) ⊎ (flow_line ids l ≡ Ok (Some (flow.Two v u))) → (v < length ids) × (u < length ids)
unfolding flow_line
flow_good ids l v u h = go (same (word l) words.flow) (same (word l) words.both) (arrow_line words.flow ids l) refl (arrow_line words.both ids l) refl h
  where
    go : (s t : Bool) (r : Record) → arrow_line words.flow ids l ≡ r → (r' : Record) → arrow_line words.both ids l ≡ r'
        → (cond s (on_record r (λ from to _ _. Ok (Some (flow.One from to))) Err) (cond t (on_record r' (λ from to _ _. Ok (Some (flow.Two from to))) Err) (Ok None)) ≡ Ok (Some (flow.One v u)))
        ⊎ (cond s (on_record r (λ from to _ _. Ok (Some (flow.One from to))) Err) (cond t (on_record r' (λ from to _ _. Ok (Some (flow.Two from to))) Err) (Ok None)) ≡ Ok (Some (flow.Two v u)))
        → (v < length ids) × (u < length ids)
    go true t (Ok ns) q r' q' (inl h) =
        let e : ns.first ≡ v = cc in let f : ns.second ≡ u = cc in rw (← e, ← f) (arrow_good words.flow ids l q)
    go true t (Ok ns) q r' q' (inr h) = let z : ◌≡◌ {A = ℕ} 0 1 = cc in absurd (omega arith)
    go true t (Err x) q r' q' (inl h) = let z : ◌≡◌ {A = ℕ} 0 1 = cc in absurd (omega arith)
    go true t (Err x) q r' q' (inr h) = let z : ◌≡◌ {A = ℕ} 0 1 = cc in absurd (omega arith)
    go false true r q (Ok ns) q' (inl h) = let z : ◌≡◌ {A = ℕ} 0 1 = cc in absurd (omega arith)
    go false true r q (Ok ns) q' (inr h) =
        let e : ns.first ≡ v = cc in let f : ns.second ≡ u = cc in rw (← e, ← f) (arrow_good words.both ids l q')
    go false true r q (Err x) q' (inl h) = let z : ◌≡◌ {A = ℕ} 0 1 = cc in absurd (omega arith)
    go false true r q (Err x) q' (inr h) = let z : ◌≡◌ {A = ℕ} 0 1 = cc in absurd (omega arith)
    go false false r q r' q' (inl h) = let z : ◌≡◌ {A = ℕ} 0 1 = cc in absurd (omega arith)
    go false false r q r' q' (inr h) = let z : ◌≡◌ {A = ℕ} 0 1 = cc in absurd (omega arith)
