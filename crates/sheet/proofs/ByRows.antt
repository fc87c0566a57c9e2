-- Every kind of line is what its rows of the table say. Assumes nothing.
use Rattle.model.specs.declared.refusal.Refusal.{Refusal}
use Rattle.model.specs.declared.refusal.Refusal.TheVariants as why
use Rattle.std.specs.Prelude.{Err, Option, Some, None}
use Prim.Native.Nat.{ℕ, suc}
use mathlib.Core.Path.{◌≡◌, refl, sym, ap, ◌∙◌}
use mathlib.Core.List.{List, [], ◌∷◌, ◌++◌}
use mathlib.Core.Bool.{Bool, true, false, cond, not, ◌&&◌, ◌||◌}
use native.Mathlib.Omega.{arith}
use lib.ListN.{length, get_or, set, replicate}
use lib.Dec.{ltb, eqb}
use borrow.Author.Tests.{eqb-true}
use Rattle.model.specs.Limits.{STATES, ACTIONS, BOXES}
use Rattle.text.specs.Number.{number, on_number}
use Rattle.text.specs.Lines.{same}
use Rattle.sheet.specs.Records.{Due}
use Rattle.sheet.specs.Records as due
use Rattle.sheet.specs.Words as words
use Rattle.sheet.specs.Numbers.{Record, said, on_record, four, each, numbers, word, rest, record_of}
use Rattle.sheet.specs.Records.{sheet_limits, act_limits, go_limits, arrow_limits, view_limits, sized, known, label_good, box_of, sheet_line, box_line, act_line, go_line, arrow_line, view_line, line_due}
use Rattle.sheet.specs.Meaning.{FirstRow, here, later, NoRow, none, more}
use Rattle.sheet.specs.Table.{Row, by_rows, is_bad, value_of, some_bad, values, nth, opening, sheet_more, sheet_says, act_more, act_says, go_more, go_says, arrow_more, arrow_says, view_more, view_says, box_id, box_rows, rows, says}

flip : {A : Type 0} (t : Bool) (x y : A) → cond t x y ≡ cond (not t) y x
flip true x y = refl
flip false x y = refl

-- rows after rows
rows_after : (xs ys : List Row) (r : Record) → by_rows (xs ++ ys) r ≡ by_rows xs (by_rows ys r)
unfolding by_rows
rows_after [] ys r = refl
rows_after (x ∷ xs) ys r = ap (λ (z : Record). cond x.holds (Err x.refusal) z) (rows_after xs ys r)

-- what is made of a record whose rows do not hold
rows_on : (xs : List Row) (r : Record) (f : ℕ → ℕ → ℕ → ℕ → Record) → on_record (by_rows xs r) f Err ≡ by_rows xs (on_record r f Err)
unfolding by_rows
rows_on [] r f = refl
rows_on (x ∷ xs) r f = go x.holds (rows_on xs r f)
  where
    go : (t : Bool) → on_record (by_rows xs r) f Err ≡ by_rows xs (on_record r f Err) → on_record (cond t (Err x.refusal) (by_rows xs r)) f Err ≡ cond t (Err x.refusal) (by_rows xs (on_record r f Err))
    go true h = refl
    go false h = h

-- the numbers, where there are as many fields as limits
each_by_rows : (ms : List ℕ) (fs : List (List ℕ)) (k : ℕ) (vs : List ℕ) → length fs ≡ length ms → each ms fs k vs ≡ cond (some_bad ms fs) (Err why.Number) (four (values ms fs k vs))
unfolding each some_bad values
each_by_rows [] fs k vs h = refl
each_by_rows (m ∷ ms) [] k vs h = absurd (omega arith)
each_by_rows (m ∷ ms) (f ∷ fs) k vs h = go (number m f) (λ vs. each_by_rows ms fs (suc k) vs (omega arith))
  where
    go : (n : Option ℕ) → ((vs : List ℕ) → each ms fs (suc k) vs ≡ cond (some_bad ms fs) (Err why.Number) (four (values ms fs (suc k) vs)))
        → on_number n (λ v. each ms fs (suc k) (set vs k v)) (Err why.Number) ≡ cond (is_bad n || some_bad ms fs) (Err why.Number) (four (values ms fs (suc k) (set vs k (value_of n))))
    go (Some v) i = i (set vs k v)
    go None i = refl

record_by_rows : (w ms l : List ℕ) → record_of w ms l ≡ by_rows (opening w ms l) (four (values ms (rest l) 0 (replicate 4 0)))
unfolding record_of numbers by_rows
record_by_rows w ms l = flip (same (word l) w) _ _ ∙ ap (λ (z : Record). cond (not (same (word l) w)) (Err why.Record) z) (go (eqb (length (rest l)) (length ms)) refl)
  where
    go : (t : Bool) → eqb (length (rest l)) (length ms) ≡ t → cond t (each ms (rest l) 0 (replicate 4 0)) (Err why.Fields) ≡ cond (not t) (Err why.Fields) (cond (some_bad ms (rest l)) (Err why.Number) (four (values ms (rest l) 0 (replicate 4 0))))
    go true q = each_by_rows ms (rest l) 0 (replicate 4 0) (eqb-true _ _ q)
    go false q = refl

-- a record of numbers, and the rows after its first three
onward : (w ms l : List ℕ) (f : ℕ → ℕ → ℕ → ℕ → Record) (ys : List Row) (r : Record)
    → f (nth ms l 0) (nth ms l 1) (nth ms l 2) (nth ms l 3) ≡ by_rows ys r → on_record (record_of w ms l) f Err ≡ by_rows (opening w ms l ++ ys) r
onward w ms l f ys r h =
    ap (λ (z : Record). on_record z f Err) (record_by_rows w ms l)
    ∙ rows_on (opening w ms l) (four (values ms (rest l) 0 (replicate 4 0))) f
    ∙ ap (by_rows (opening w ms l)) h
    ∙ sym (rows_after (opening w ms l) ys r)

two_tests : (s t : Bool) (x y : Refusal) (r : Record) → cond s (cond t r (Err y)) (Err x) ≡ cond (not s) (Err x) (cond (not t) (Err y) r)
two_tests true t x y r = flip t r (Err y)
two_tests false t x y r = refl

sheet_by_rows : (l : List ℕ) → sheet_line l ≡ by_rows (opening words.sheet sheet_limits l ++ sheet_more l) (sheet_says l)
unfolding sheet_line by_rows
sheet_by_rows l =
    onward words.sheet sheet_limits l _ (sheet_more l) (sheet_says l)
    (two_tests (sized STATES (nth sheet_limits l 0) && sized ACTIONS (nth sheet_limits l 1) && sized BOXES (nth sheet_limits l 2)) (ltb (nth sheet_limits l 3) (nth sheet_limits l 0)) why.Size why.Order (sheet_says l))

act_by_rows : (ids l : List ℕ) → act_line ids l ≡ by_rows (opening words.act act_limits l ++ act_more ids l) (act_says ids l)
unfolding act_line by_rows
act_by_rows ids l = onward words.act act_limits l _ (act_more ids l) (act_says ids l) (flip (known ids (nth act_limits l 0)) (act_says ids l) (Err why.UnknownId))

go_by_rows : (states state action : ℕ) (l : List ℕ) → go_line states state action l ≡ by_rows (opening words.go go_limits l ++ go_more states state action l) (go_says l)
unfolding go_line by_rows
go_by_rows states state action l =
    onward words.go go_limits l _ (go_more states state action l) (go_says l)
    (flip (eqb (nth go_limits l 0) state && eqb (nth go_limits l 1) action && ltb (nth go_limits l 2) states) (go_says l) (Err why.Order))

pub arrow_by_rows : (w ids l : List ℕ) → arrow_line w ids l ≡ by_rows (opening w arrow_limits l ++ arrow_more ids l) (arrow_says ids l)
unfolding arrow_line by_rows
arrow_by_rows w ids l =
    onward w arrow_limits l _ (arrow_more ids l) (arrow_says ids l)
    (flip (known ids (nth arrow_limits l 0) && known ids (nth arrow_limits l 1)) (arrow_says ids l) (Err why.UnknownId))

view_by_rows : (id state : ℕ) (l : List ℕ) → view_line id state l ≡ by_rows (opening words.view view_limits l ++ view_more id state l) (view_says l)
unfolding view_line by_rows
view_by_rows id state l =
    onward words.view view_limits l _ (view_more id state l) (view_says l)
    (two_tests (eqb (nth view_limits l 0) id) (eqb (nth view_limits l 1) state) why.UnknownId why.Order (view_says l))

box_by_rows : (ids l : List ℕ) → box_line ids l ≡ by_rows (box_rows ids l) (said (value_of (box_id l)) 0 0 0)
unfolding box_line by_rows
box_by_rows ids l = two (same (word l) words.box) (eqb (length (rest l)) 2) (go (box_id l))
  where
    go : (n : Option ℕ) → box_of ids n (get_or (rest l) 1 []) ≡ cond (is_bad n) (Err why.Number) (cond (known ids (value_of n)) (Err why.SameId) (cond (not (label_good (get_or (rest l) 1 []))) (Err why.Label) (said (value_of n) 0 0 0)))
    go None = refl
    go (Some v) = ap (cond (known ids v) (Err why.SameId)) (flip (label_good (get_or (rest l) 1 [])) (said v 0 0 0) (Err why.Label))

    two : (s t : Bool) {x y : Record} → x ≡ y → cond s (cond t x (Err why.Fields)) (Err why.Record) ≡ cond (not s) (Err why.Record) (cond (not t) (Err why.Fields) y)
    two true true e = e
    two true false e = refl
    two false t e = refl

-- the line that is due is what its rows say
pub by_rows_lem : (d : Due) (ids l : List ℕ) → line_due d ids l ≡ by_rows (rows d ids l) (says d ids l)
by_rows_lem due.Sheet ids l = sheet_by_rows l
by_rows_lem due.Box ids l = box_by_rows ids l
by_rows_lem due.Act ids l = act_by_rows ids l
by_rows_lem (due.Go states state action) ids l = go_by_rows states state action l
by_rows_lem (due.View id state) ids l = view_by_rows id state l

pub row_decides : (xs : List Row) (r : Record) {n : Refusal} {a b c d : ℕ} → r ≡ said a b c d → by_rows xs r ≡ Err n → FirstRow xs n
unfolding by_rows
row_decides [] r {n} q h = let z : ◌≡◌ {A = ℕ} 0 1 = cc in absurd (omega arith)
row_decides (x ∷ xs) r {n} q h = go x.holds refl (row_decides xs r q) h
  where
    go : (t : Bool) → x.holds ≡ t → (by_rows xs r ≡ Err n → FirstRow xs n) → cond t (Err x.refusal) (by_rows xs r) ≡ Err n → FirstRow (x ∷ xs) n
    go true e f h = let z : x.refusal ≡ n = cc in rw (← z) (here e)
    go false e f h = later e (f h)

pub decides_row : (xs : List Row) (r : Record) {n : Refusal} → FirstRow xs n → by_rows xs r ≡ Err n
unfolding by_rows
decides_row [] r {n = n} x' = elim x' [ ]
decides_row (x ∷ xs) r (here e) = rw e
decides_row (x ∷ xs) r (later e f) = rw e (decides_row xs r f)

pub no_row : (xs : List Row) (r : Record) {a b c d : ℕ} → by_rows xs r ≡ said a b c d → NoRow xs × (r ≡ said a b c d)
unfolding by_rows
no_row [] r h = (none, h)
no_row (x ∷ xs) r {a} {b} {c} {d} h = go x.holds refl (λ h. no_row xs r h) h
  where
    go : (t : Bool) → x.holds ≡ t → (by_rows xs r ≡ said a b c d → NoRow xs × (r ≡ said a b c d)) → cond t (Err x.refusal) (by_rows xs r) ≡ said a b c d → NoRow (x ∷ xs) × (r ≡ said a b c d)
    go true e f h = let z : ◌≡◌ {A = ℕ} 0 1 = cc in absurd (omega arith)
    go false e f h = (more e (f h).0, (f h).1)

pub row_none : (xs : List Row) (r : Record) → NoRow xs → by_rows xs r ≡ r
unfolding by_rows
row_none [] r none = refl
row_none (x ∷ xs) r (more e f) = rw e (row_none xs r f)
