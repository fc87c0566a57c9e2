-- What a refusal means, line by line and apart from the phases: which line is due after those before it, and which rows it is held to.
use Rattle.std.specs.Prelude.{ℕ, suc, ◌-◌, ◌*◌, ◌/◌, ◌%◌, List, [], ◌∷◌, ◌++◌, ◌≡◌, Bool, true, false, cond, ◌&&◌, ◌||◌, length, get_or, set, take, replicate, ltb, eqb}
use Rattle.model.specs.Limits.{BOXES, SHEET_BYTES}
use Rattle.model.specs.Made.{sizes_from}
use Rattle.model.specs.declared.Sizes.{Sizes}
use Rattle.text.specs.Lines.{lines, same}
use Rattle.model.specs.declared.refusal.Refusal.{Refusal}
use Rattle.model.specs.declared.refusal.Refusal.TheVariants as why
use Rattle.sheet.specs.Records as due
use Rattle.sheet.specs.Words as words
use Rattle.sheet.specs.Numbers.{Record, said, word}
use Rattle.sheet.specs.Records.{arrow_limits, sized}
use Rattle.sheet.specs.Table.{Row, row, opening, arrow_more, arrow_says, rows, says}

-- what is due: the `sheet` line; box, action, entry of the step table; an arrow or the first view; entry of the view table; nothing more
pub data Situation : Type 0 where
  at_sheet : Situation
  at_box : Sizes → ℕ → List ℕ → Situation
  at_act : Sizes → List ℕ → ℕ → Situation
  at_go : Sizes → List ℕ → ℕ → Situation
  at_flow : Sizes → List ℕ → Situation
  at_view : Sizes → List ℕ → ℕ → Situation
  at_end : Situation

-- from a count on, or what follows
abbrev pub views_from : Sizes → List ℕ → ℕ → Situation
views_from z ids k = cond (ltb k (length ids * z.states)) (at_view z ids k) at_end

abbrev pub goes_from : Sizes → List ℕ → ℕ → Situation
goes_from z ids k = cond (ltb k (z.states * z.actions)) (at_go z ids k) (at_flow z ids)

abbrev pub acts_from : Sizes → List ℕ → ℕ → Situation
acts_from z ids k = cond (ltb k z.actions) (at_act z ids k) (goes_from z ids 0)

abbrev pub boxes_from : Sizes → ℕ → List ℕ → Situation
boxes_from z k ids = cond (ltb k z.boxes) (at_box z k ids) (acts_from z (take z.boxes ids) 0)

-- is a line one of arrows
abbrev pub is_arrow : List ℕ → Bool
is_arrow l = same (word l) words.flow || same (word l) words.both

-- the rows that a line is held to
abbrev pub rows_at : Situation → List ℕ → List Row
rows_at at_sheet l = rows due.Sheet [] l
rows_at (at_box z k ids) l = rows due.Box (take k ids) l
rows_at (at_act z ids k) l = rows due.Act ids l
rows_at (at_go z ids k) l = rows (due.Go z.states (k / z.actions) (k % z.actions)) ids l
rows_at (at_flow z ids) l =
    cond (same (word l) words.flow) (opening words.flow arrow_limits l ++ arrow_more ids l)
    (cond (same (word l) words.both) (opening words.both arrow_limits l ++ arrow_more ids l)
    (rows (due.View (get_or ids (0 / z.states) 0) (0 % z.states)) ids l))
rows_at (at_view z ids k) l = rows (due.View (get_or ids (k / z.states) 0) (k % z.states)) ids l
rows_at at_end l = row why.Record true ∷ []

-- what a line says to which none of them applies
abbrev pub says_at : Situation → List ℕ → Record
says_at at_sheet l = says due.Sheet [] l
says_at (at_box z k ids) l = says due.Box (take k ids) l
says_at (at_act z ids k) l = says due.Act ids l
says_at (at_go z ids k) l = says (due.Go z.states (k / z.actions) (k % z.actions)) ids l
says_at (at_flow z ids) l =
    cond (is_arrow l) (arrow_says ids l) (says (due.View (get_or ids (0 / z.states) 0) (0 % z.states)) ids l)
says_at (at_view z ids k) l = says (due.View (get_or ids (k / z.states) 0) (k % z.states)) ids l
says_at at_end l = said 0 0 0 0

-- what is due after a line that said a, b, c, d
abbrev pub after : Situation → List ℕ → ℕ → ℕ → ℕ → ℕ → Situation
after at_sheet l a b c d = boxes_from (sizes_from a b c d) 0 (replicate BOXES 0)
after (at_box z k ids) l a b c d = boxes_from z (suc k) (set ids k a)
after (at_act z ids k) l a b c d = acts_from z ids (suc k)
after (at_go z ids k) l a b c d = goes_from z ids (suc k)
after (at_flow z ids) l a b c d = cond (is_arrow l) (at_flow z ids) (views_from z ids 1)
after (at_view z ids k) l a b c d = views_from z ids (suc k)
after at_end l a b c d = at_end

-- may a text end here
abbrev pub complete : Situation → Bool
complete at_sheet = false
complete (at_box z k ids) = false
complete (at_act z ids k) = false
complete (at_go z ids k) = false
complete (at_flow z ids) = false
complete (at_view z ids k) = false
complete at_end = true

-- the row of the refusal is the first that holds
pub data FirstRow : List Row → Refusal → Type 0 where
  here : {x : Row} {xs : List Row} → x.holds ≡ true → FirstRow (x ∷ xs) x.refusal
  later : {x : Row} {xs : List Row} {e : Refusal} → x.holds ≡ false → FirstRow xs e → FirstRow (x ∷ xs) e

-- no row holds
pub data NoRow : List Row → Type 0 where
  none : NoRow []
  more : {x : Row} {xs : List Row} → x.holds ≡ false → NoRow xs → NoRow (x ∷ xs)

-- lines of which the first has the number n are refused by the row of e at line m: the text ends while a record is due, or this line is bad, or it is good and a later one is refused
pub data Refused : Situation → List (List ℕ) → ℕ → Refusal → ℕ → Type 0 where
  ended : {s : Situation} {n : ℕ} → complete s ≡ false → Refused s [] n why.Ended n
  bad : {s : Situation} {l : List ℕ} {ls : List (List ℕ)} {n : ℕ} {e : Refusal} → FirstRow (rows_at s l) e → Refused s (l ∷ ls) n e n
  good : {s : Situation} {l : List ℕ} {ls : List (List ℕ)} {n m : ℕ} {e : Refusal} (a b c d : ℕ) → NoRow (rows_at s l) → says_at s l ≡ said a b c d → Refused (after s l a b c d) ls (suc n) e m → Refused s (l ∷ ls) n e m

-- a text is refused: as a whole, or by its lines, of which the first is due to be the `sheet` line
pub data RefusedText (t : List ℕ) : Refusal → ℕ → Type 0 where
  whole : (sized SHEET_BYTES (length t) && eqb (get_or t (length t - 1) 0) 10) ≡ false → RefusedText t why.Text 0
  by_line : {e : Refusal} {n : ℕ} → (sized SHEET_BYTES (length t) && eqb (get_or t (length t - 1) 0) 10) ≡ true → Refused at_sheet (lines t) 1 e n → RefusedText t e n
