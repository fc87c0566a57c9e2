-- The first field of a line and those after it, by their places. Assumes nothing.
use Rattle.model.specs.declared.refusal.Refusal.TheVariants as why
use Rattle.std.specs.Prelude.{Err}
use Prim.Native.Nat.{ℕ, suc, ◌+◌, ◌-◌, ◌<◌, ◌≤◌}
use mathlib.Core.Path.{◌≡◌, sym, ap, ◌∙◌}
use mathlib.Core.Bool.{true}
use mathlib.Core.List.{List}
use native.Mathlib.Omega.{arith}
use lib.ListN.{length, take, drop}
use lib.Seq.{length-take-le}
use borrow.Author.Tests.{ne_eqb}
use Rattle.model.specs.Limits.{LARGEST_ID}
use Rattle.text.specs.Number.{number}
use Rattle.text.specs.Lines.{before, fields_at, field_from, end_of, same}
use Rattle.text.proofs.Parts.{before_le, fields_all, fields_next, fields_none, first_field, same_is, end_within}
use Rattle.sheet.specs.Numbers.{word, rest}
use Rattle.sheet.specs.Records.{box_of, box_fields}

pub rest_from : (l : List ℕ) (e : ℕ) → e ≡ end_of 9 l 0 → fields_at l (e + 1) ≡ rest l
rest_from l e h = rw h (sym (rw (fields_all l, fields_next l 0 (omega arith))))

-- where the first field is a word, the others start behind it
pub rest_after : (l w : List ℕ) → same (word l) w ≡ true → fields_at l (length w + 1) ≡ rest l
rest_after l w e =
    rest_from l (length w)
    (let n : length w ≡ before 9 l = ap length (sym (first_field l ∙ same_is (word l) w e)) ∙ length-take-le (before 9 l) l (before_le 9 l) in omega arith)

-- the fields from a place on are two, by the ends of the first and the second
module _ (ids l : List ℕ) (i : ℕ) where
  pub none : length l < i → Err why.Fields ≡ box_fields ids (fields_at l i)
  none h = rw (fields_none l i h)

  module _ (h : i ≤ length l) (e : ℕ) (p : e ≡ end_of 9 l i) where
    pub one : length l ≤ e → Err why.Fields ≡ box_fields ids (fields_at l i)
    one g = rw (fields_next l i h, fields_none l (end_of 9 l i + 1) (omega arith))

    module _ (g : e < length l) (f : ℕ) (q : f ≡ end_of 9 l (e + 1)) where
      pub more : f < length l → Err why.Fields ≡ box_fields ids (fields_at l i)
      more k = rw (fields_next l i h, ← p, fields_next l (e + 1) (omega arith), ← q, fields_next l (f + 1) (omega arith), ne_eqb (suc (suc (suc (length (fields_at l (end_of 9 l (f + 1) + 1)))))) 2 (λ z. omega arith))

      pub two : length l ≤ f → box_of ids (number LARGEST_ID (field_from l i)) (take (length l - (e + 1)) (drop (e + 1) l)) ≡ box_fields ids (fields_at l i)
      two k =
          let n : before 9 (drop (e + 1) l) ≡ length l - (e + 1) = omega (arith, end_within l 9 (e + 1) (omega arith)) in
          sym (rw (fields_next l i h, ← p, fields_next l (e + 1) (omega arith), ← q, fields_none l (f + 1) (omega arith), n))
