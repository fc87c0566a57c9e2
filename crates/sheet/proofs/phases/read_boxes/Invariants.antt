-- `sheet::phases::read_boxes` meets its contract. Assumes nothing.
use Rattle.std.proofs.Common.{◌≡◌, ℕ, List, length, take, drop, set}
use Rattle.model.specs.Limits.{BOXES}
use Rattle.text.specs.Lines.{lines}
use Rattle.sheet.specs.Numbers.{Record}
use Rattle.sheet.specs.Phases.{boxes}
use Rattle.sheet.specs.Records.{box_line}
use Rattle.sheet.proofs.Going.{Going}
use Rattle.sheet.proofs.phases.read_boxes.Given as goal

abbrev pub due : ℕ → List ℕ → List ℕ → Record
due k ids = box_line (take k ids)

abbrev pub kept : ℕ → List ℕ → ℕ → ℕ → ℕ → ℕ → List ℕ
kept k ids id _ _ _ = set ids k id

pub record At (t : List ℕ) (from first count : ℕ) (ids : List ℕ) (at n k : ℕ) : Type 0 where
  pub room : length ids ≡ BOXES
  pub going : Going due kept t (boxes count (lines (drop from t)) first) count k ids at n

abbrev pub invariant-loop-k : goal.invariant-loop-k
invariant-loop-k l = At l.sheet.text.now l.fn.first.at l.fn.first.line l.count l.ids l.cursor.0 l.cursor.1.0 l.k
