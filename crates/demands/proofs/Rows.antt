-- A text of lines of fields says its fields: two such texts with the same bytes have the same fields.
-- Assumes nothing.
use Rattle.std.specs.Prelude.{Some}
use mathlib.Core.Path.{◌≡◌, refl, sym, ap, ◌∙◌}
use mathlib.Core.Logic.{◌↔◌}
use mathlib.Core.Bool.{Bool, true, false, cond}
use mathlib.Core.List.{List, [], ◌∷◌, ◌++◌, append_assoc, append-nil}
use Prim.Native.Nat.{ℕ, zero, suc, ◌+◌, ◌/◌, ◌%◌, ◌<◌, ◌≤◌}
use native.Mathlib.Omega.{arith}
use lib.Dec.{ltb}
use lib.ListN.{get_or}
use borrow.Author.Tests.{ne_eqb}
use Rattle.laws.specs.Lists.{All}
use Rattle.text.specs.Lines.{onto, lines, fields}
use Rattle.text.specs.Number.{digits, decimal, number}
use Rattle.text.proofs.Digits.{read_decimal}
use Rattle.zarpalume.specs.Lines.{line}
use Rattle.demands.specs.Printed.{Row, text}

-- no byte is a tab or an LF
abbrev pub Plain : List ℕ → Type 0
Plain f = All (λ x. 10 < x) f

abbrev pub PlainRow : Row → Type 0
PlainRow [] = ⊥
PlainRow (f ∷ []) = Plain f
PlainRow (f ∷ g ∷ fs) = Plain f × PlainRow (g ∷ fs)

abbrev pub PlainRows : List Row → Type 0
PlainRows [] = Unit {0}
PlainRows (r ∷ rs) = PlainRow r × PlainRows rs

-- a line without its LF
unfoldable pub glue : Row → List ℕ
glue [] = []
glue (f ∷ []) = f
glue (f ∷ g ∷ fs) = f ++ (9 ∷ glue (g ∷ fs))

-- ---- plain bytes go in front of the first part, be it a line or a field
module _ (parts : List ℕ → List (List ℕ)) (grows : (x : ℕ) (xs : List ℕ) → 10 < x → parts (x ∷ xs) ≡ onto x (parts xs)) where
  in_front : (f rest l : List ℕ) (ls : List (List ℕ)) → Plain f → parts rest ≡ l ∷ ls → parts (f ++ rest) ≡ (f ++ l) ∷ ls
  unfolding onto
  in_front [] rest l ls p e = e
  in_front (x ∷ xs) rest l ls p e = grows x (xs ++ rest) p.0 ∙ ap (onto x) (in_front xs rest l ls p.1 e)

lines_grow : (x : ℕ) (xs : List ℕ) → 10 < x → lines (x ∷ xs) ≡ onto x (lines xs)
unfolding lines
lines_grow x xs h = rw (ne_eqb x 10 (λ e. omega arith))

fields_grow : (x : ℕ) (xs : List ℕ) → 10 < x → fields (x ∷ xs) ≡ onto x (fields xs)
unfolding fields
fields_grow x xs h = rw (ne_eqb x 9 (λ e. omega arith))

pub line_next : (r : Row) (t : List ℕ) → PlainRow r → lines (line r ++ t) ≡ glue r ∷ lines t
unfolding line glue lines onto
line_next [] t p = absurd p
line_next (f ∷ []) t p =
    ap lines (append_assoc f (10 ∷ []) t) ∙ in_front lines lines_grow f (10 ∷ t) [] (lines t) p refl ∙ ap (λ l. l ∷ lines t) (append-nil f)
line_next (f ∷ g ∷ fs) t p =
    ap lines (append_assoc f (9 ∷ line (g ∷ fs)) t)
    ∙ in_front lines lines_grow f (9 ∷ (line (g ∷ fs) ++ t)) (9 ∷ glue (g ∷ fs)) (lines t) p.0 (ap (onto 9) (line_next (g ∷ fs) t p.1))

pub fields_back : (r : Row) → PlainRow r → fields (glue r) ≡ r
unfolding glue fields
fields_back [] p = absurd p
fields_back (f ∷ []) p =
    ap fields (sym (append-nil f)) ∙ in_front fields fields_grow f [] [] [] p refl ∙ ap (λ l. l ∷ []) (append-nil f)
fields_back (f ∷ g ∷ fs) p =
    in_front fields fields_grow f (9 ∷ glue (g ∷ fs)) [] (g ∷ fs) p.0 (ap (λ r. [] ∷ r) (fields_back (g ∷ fs) p.1))
    ∙ ap (λ l. l ∷ g ∷ fs) (append-nil f)

-- ---- back from the text
rows_from : List (List ℕ) → List Row
rows_from [] = []
rows_from (l ∷ ls) = fields l ∷ rows_from ls

rows_back : (rs : List Row) → PlainRows rs → rows_from (lines (text rs)) ≡ rs
unfolding text lines rows_from
rows_back [] p = refl
rows_back (r ∷ rs) p = ap rows_from (line_next r (text rs) p.0) ∙ rw (fields_back r p.0, rows_back rs p.1)

pub text_once : (rs qs : List Row) → PlainRows rs → PlainRows qs → text rs ≡ text qs → rs ≡ qs
text_once rs qs p q e = sym (rows_back rs p) ∙ ap (λ t. rows_from (lines t)) e ∙ rows_back qs q

pub text_append : (rs qs : List Row) → text (rs ++ qs) ≡ text rs ++ text qs
unfolding text
text_append [] qs = refl
text_append (r ∷ rs) qs = ap (λ t. line r ++ t) (text_append rs qs) ∙ sym (append_assoc (line r) (text rs) (text qs))

-- the first line has the fields of the first row
pub first_row : (r q : Row) (rs : List Row) → PlainRow r → PlainRow q → (get_or (lines (text (r ∷ rs))) 0 [] ≡ glue q) ↔ (r ≡ q)
unfolding text
first_row r q rs p o =
    let f : get_or (lines (text (r ∷ rs))) 0 [] ≡ glue r = ap (λ ls. get_or ls 0 []) (line_next r (text rs) p) in
    (λ e. sym (fields_back r p) ∙ ap fields (sym f ∙ e) ∙ fields_back q o, λ e. f ∙ ap glue e)

-- ---- numbers
all_append : (p : ℕ → Type 0) (xs ys : List ℕ) → All p xs → All p ys → All p (xs ++ ys)
all_append p [] ys h k = k
all_append p (x ∷ xs) ys h k = (h.0, all_append p xs ys h.1 k)

digits_plain : (most v : ℕ) → Plain (digits most v)
unfolding digits
digits_plain zero v = tt
digits_plain (suc most) v = go (ltb v 10) (digits_plain most (v / 10))
  where
    go : (b : Bool) → Plain (digits most (v / 10)) → Plain (cond b ((48 + v) ∷ []) (digits most (v / 10) ++ ((48 + v % 10) ∷ [])))
    go true h = (omega arith, tt)
    go false h = all_append (λ x. 10 < x) (digits most (v / 10)) ((48 + v % 10) ∷ []) h (omega arith, tt)

pub decimal_plain : (v : ℕ) → Plain (decimal v)
decimal_plain v = digits_plain 10 v

pub decimal_once : (v w : ℕ) → v ≤ 4294967295 → w ≤ 4294967295 → decimal v ≡ decimal w → v ≡ w
decimal_once v w hv hw e =
    let a : Some v ≡ Some w = sym (read_decimal 4294967295 v hv hv) ∙ ap (number 4294967295) e ∙ read_decimal 4294967295 w hw hw in cc
