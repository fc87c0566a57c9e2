-- A record of a word and up to four numbers.
use Rattle.std.specs.Prelude.{ℕ, suc, List, [], ◌∷◌, cond, length, get_or, set, drop, replicate, eqb, Result, Ok, Err}
use Rattle.text.specs.Number.{number, on_number}
use Rattle.text.specs.Lines.{fields, same}
use Rattle.model.specs.declared.refusal.Refusal.{Refusal}
use Rattle.model.specs.declared.refusal.Refusal.TheVariants as why
use Rattle.model.specs.Made.{sizes_from}
use Rattle.model.specs.declared.Sizes.{Sizes}
use Rattle.sheet.specs.declared.Numbers.{Numbers}

-- the numbers of a record, 0 beyond its count; or why it is refused
abbrev pub Record : Type 0
Record = Result Numbers Refusal

abbrev pub said : ℕ → ℕ → ℕ → ℕ → Record
said a b c d = Ok (record { first = a; second = b; third = c; fourth = d })

-- what becomes of a record that is good, and of one that is refused
abbrev pub on_record : {A : Type 0} → Record → (ℕ → ℕ → ℕ → ℕ → A) → (Refusal → A) → A
on_record (Ok v) f z = f v.first v.second v.third v.fourth
on_record (Err e) f z = z e

-- what a reader keeps of a record
abbrev pub kept_as : {T : Type 0} → (ℕ → ℕ → ℕ → ℕ → T) → Record → Result T Refusal
kept_as f r = on_record r (λ a b c d. Ok (f a b c d)) Err

-- the sizes of a `sheet` line; the id or the position of a `box` or an `act` line; the next state and the output of a `go` line; the two positions of an arrow; the class of a `view` line
abbrev pub as_sizes : Record → Result Sizes Refusal
as_sizes r = kept_as sizes_from r

abbrev pub first_kept : ℕ → ℕ → ℕ → ℕ → ℕ
first_kept a _ _ _ = a

abbrev pub as_first : Record → Result ℕ Refusal
as_first r = kept_as first_kept r

abbrev pub step_kept : ℕ → ℕ → ℕ → ℕ → ℕ × ℕ
step_kept _ _ next output = (next, output)

abbrev pub as_step : Record → Result (ℕ × ℕ) Refusal
as_step r = kept_as step_kept r

abbrev pub as_pair : Record → Result (ℕ × ℕ) Refusal
as_pair r = kept_as (λ v u _ _. (v, u)) r

abbrev pub class_kept : ℕ → ℕ → ℕ → ℕ → ℕ
class_kept _ _ class _ = class

abbrev pub as_class : Record → Result ℕ Refusal
as_class r = kept_as class_kept r

-- four values as a record
abbrev pub four : List ℕ → Record
four vs = said (get_or vs 0 0) (get_or vs 1 0) (get_or vs 2 0) (get_or vs 3 0)

-- each field is a number up to its limit, from left to right, or `Number`; the values go from place k on
unfoldable pub each : List ℕ → List (List ℕ) → ℕ → List ℕ → Record
each [] fs k vs = four vs
each (m ∷ ms) [] k vs = Err why.Fields
each (m ∷ ms) (f ∷ fs) k vs = on_number (number m f) (λ v. each ms fs (suc k) (set vs k v)) (Err why.Number)

-- as many fields as limits, or `Fields`; then the numbers
unfoldable pub numbers : List ℕ → List (List ℕ) → Record
numbers limits fs = cond (eqb (length fs) (length limits)) (each limits fs 0 (replicate 4 0)) (Err why.Fields)

-- the first field of a line, and those after it
abbrev pub word : List ℕ → List ℕ
word l = get_or (fields l) 0 []

abbrev pub rest : List ℕ → List (List ℕ)
rest l = drop 1 (fields l)

-- the word that is due, or `Record`; then the numbers
unfoldable pub record_of : List ℕ → List ℕ → List ℕ → Record
record_of w limits l = cond (same (word l) w) (numbers limits (rest l)) (Err why.Record)
