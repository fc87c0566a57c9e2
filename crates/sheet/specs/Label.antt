-- The label call: where the label of a box stands in a text.
use Rattle.std.specs.Prelude.{ℕ, zero, suc, ◌+◌, ◌-◌, List, cond, take, drop, ltb, ◌≡◌, Result, Ok, Err}
use Rattle.std.specs.Borrow.{Bor}
use Rattle.text.specs.Lines.{end_of, line_at}
use Rattle.model.specs.declared.refusal.Refusal.TheVariants as why
use Rattle.model.specs.declared.refusal.Refused.{Refused}
use Rattle.model.specs.Refusal.{refused_as}
use Rattle.sheet.specs.declared.Place.{Place}
use Rattle.sheet.specs.Reading.{Reading, model, refusal, sheet_text}

-- where line i of a text starts, counted from 0
unfoldable pub line_start : ℕ → List ℕ → ℕ
line_start zero t = 0
line_start (suc i) t = end_of 10 t (line_start i t) + 1

-- where the third field of a line starts
abbrev pub third_field : List ℕ → ℕ
third_field l = end_of 9 l (end_of 9 l 0 + 1) + 1

-- the `box` line of a position follows the `sheet` line and those of the positions before it; its label is the third field, to its end
abbrev pub box_start : List ℕ → ℕ → ℕ
box_start t position = line_start (position + 1) t

abbrev pub label_place : List ℕ → ℕ → Place
label_place t position = record {
  start = box_start t position + third_field (line_at t (box_start t position));
  end = end_of 10 t (box_start t position);
}

-- the sheet is tested before the position
abbrev pub found_in : Reading → List ℕ → ℕ → Result Place Refused
found_in (model z p) t position =
    cond (ltb position z.boxes) (Ok (label_place t position)) (Err (refused_as why.Range 0))
found_in (refusal e n) t position = Err (refused_as e n)

unfoldable pub label_found : List ℕ → ℕ → Result Place Refused
label_found t position = found_in (sheet_text t) t position

-- what the call gives back: the bytes of the label and where they start
pub record Label : Type 0 where
  pub bytes : List ℕ
  pub start : ℕ

abbrev pub labelled : List ℕ → ℕ → Label
labelled bytes start = record { bytes = bytes; start = start }

abbrev pub label_of : List ℕ → Result Place Refused → Result Label Refused
label_of t (Ok p) = Ok (labelled (take (p.end - p.start) (drop p.start t)) p.start)
label_of t (Err r) = Err r

abbrev pub label : List ℕ → ℕ → Result Label Refused
label t position = label_of t (label_found t position)

-- the code's answer is that one, and its bytes are the part of the caller's own text where they start
abbrev pub Handed : Bor (List ℕ) → Result (Bor (List ℕ)) Refused → Result Label Refused → Type 0
Handed text (Ok part) (Ok l) = (part.now ≡ l.bytes) × (part.ref_ptr.0 ≡ text.ref_ptr.0) × (part.ref_ptr.1 ≡ l.start + text.ref_ptr.1)
Handed text (Err r) (Err q) = r ≡ q
Handed text (Ok part) (Err q) = ⊥
Handed text (Err r) (Ok l) = ⊥
