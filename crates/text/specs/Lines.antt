-- The lines of a text and the fields of a line.
use Rattle.std.specs.Prelude.{◌≡◌, ℕ, suc, ◌+◌, ◌-◌, Bool, true, false, cond, ◌&&◌, List, [], ◌∷◌, length, take, drop, ◌==◌, nat_le, nat_lt, slice_index_or, Option, Some, None}
use Rattle.text.specs.Number.{number, more}
use Rattle.text.specs.declared.Line.{Line}
use Rattle.text.specs.declared.Field.{Field}

-- how many bytes stand before the first b, all of them where there is none
unfoldable pub before : ℕ → List ℕ → ℕ
before b [] = 0
before b (x ∷ xs) = cond (x == b) 0 (suc (before b xs))

-- a byte put in front of the first part
unfoldable pub onto : ℕ → List (List ℕ) → List (List ℕ)
onto x [] = (x ∷ []) ∷ []
onto x (f ∷ fs) = (x ∷ f) ∷ fs

-- the lines of a text, each ended by LF
unfoldable pub lines : List ℕ → List (List ℕ)
lines [] = []
lines (x ∷ xs) = cond (x == 10) ([] ∷ lines xs) (onto x (lines xs))

-- the fields of a line, parted by tabs: one more than there are tabs
unfoldable pub fields : List ℕ → List (List ℕ)
fields [] = [] ∷ []
fields (x ∷ xs) = cond (x == 9) ([] ∷ fields xs) (onto x (fields xs))

-- the fields from a place of a line on
abbrev pub fields_at : List ℕ → ℕ → List (List ℕ)
fields_at l at = cond (nat_le at (length l)) (fields (drop at l)) []

-- are two lists of bytes the same
unfoldable pub same : List ℕ → List ℕ → Bool
same [] [] = true
same [] (y ∷ ys) = false
same (x ∷ xs) [] = false
same (x ∷ xs) (y ∷ ys) = x == y && same xs ys

-- where the part that starts at a place ends, with b after it
abbrev pub end_of : ℕ → List ℕ → ℕ → ℕ
end_of b s at = at + before b (drop at s)

-- a line from its start to its LF, with the next one behind that
abbrev pub line_to : ℕ → ℕ → Line
line_to start end = record { start = start; end = end; next = end + 1 }

-- the line that starts at a place of a text
abbrev pub line_from : List ℕ → ℕ → Option Line
line_from t at = cond (nat_lt at (length t)) (Some (line_to at (end_of 10 t at))) None

-- the bytes of the line that starts at a place of a text
abbrev pub line_at : List ℕ → ℕ → List ℕ
line_at t at = take (end_of 10 t at - at) (drop at t)

-- the bytes of the field that starts at a place of a line
abbrev pub field_from : List ℕ → ℕ → List ℕ
field_from l at = take (before 9 (drop at l)) (drop at l)

-- the number in the field that starts at a place of a line, and where that field ends
abbrev pub number_from : ℕ → List ℕ → ℕ → Field
number_from limit l at = record { number = number limit (field_from l at); end = end_of 9 l at }

-- the same where digits before it made the value v
abbrev pub more_from : ℕ → List ℕ → ℕ → ℕ → Field
more_from limit l at v = record { number = more limit (field_from l at) v; end = end_of 9 l at }

-- the last byte is LF
pub record Ended (t : List ℕ) : Type 0 where
  pub last : slice_index_or t (length t - 1) 0 ≡ 10
