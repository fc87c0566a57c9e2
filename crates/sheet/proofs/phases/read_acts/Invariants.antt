-- `sheet::phases::read_acts` meets its contract. Assumes nothing.
use Rattle.std.proofs.Common.{◌≡◌, ℕ, List, length, drop, set}
use Rattle.model.specs.Limits.{ACTIONS}
use Rattle.text.specs.Lines.{lines}
use Rattle.sheet.specs.Numbers.{Record}
use Rattle.sheet.specs.Phases.{acts}
use Rattle.sheet.specs.Records.{act_line}
use Rattle.sheet.proofs.Going.{Going}
use Rattle.sheet.proofs.phases.read_acts.Given as goal

abbrev pub due : List ℕ → ℕ → List ℕ → List ℕ → Record
due ids k _ = act_line ids

abbrev pub kept : ℕ → List ℕ → ℕ → ℕ → ℕ → ℕ → List ℕ
kept k owners position _ _ _ = set owners k position

pub record At (t : List ℕ) (from first count : ℕ) (ids owners : List ℕ) (at n k : ℕ) : Type 0 where
  pub room : length owners ≡ ACTIONS
  pub going : Going (due ids) kept t (acts ids count (lines (drop from t)) first) count k owners at n

abbrev pub invariant-loop-k : goal.invariant-loop-k
invariant-loop-k l = At l.sheet.text.now l.fn.first.at l.fn.first.line l.count l.ids.ids.now l.owners l.cursor.0 l.cursor.1.0 l.k
