-- `sheet::phases::read_views` meets its contract. Assumes nothing.
use Rattle.std.proofs.Common.{◌≡◌, ℕ, ◌*◌, ◌/◌, ◌%◌, List, length, get_or, drop, set}
use Rattle.text.specs.Lines.{lines}
use Rattle.sheet.specs.Numbers.{Record}
use Rattle.sheet.specs.Phases as phases
use Rattle.sheet.specs.Phases.{Steps, steps, boxes, acts, goes}
use Rattle.sheet.specs.Records.{view_line}
use Rattle.sheet.proofs.Going.{Going}
use Rattle.sheet.proofs.phases.read_views.Given as goal

abbrev pub due : List ℕ → ℕ → ℕ → List ℕ → List ℕ → Record
due ids states k _ = view_line (get_or ids (k / states) 0) (k % states)

abbrev pub kept : ℕ → List ℕ → ℕ → ℕ → ℕ → ℕ → List ℕ
kept k t _ _ class _ = set t k class

pub record At (t : List ℕ) (from first states : ℕ) (ids views₀ views : List ℕ) (at n k : ℕ) : Type 0 where
  pub same_length : length views ≡ length views₀
  pub going : Going (due ids states) kept t (phases.views ids states views₀ (lines (drop from t)) first) (length ids * states) k views at n

abbrev pub invariant-loop-k : goal.invariant-loop-k
invariant-loop-k l = At l.sheet.text.now l.fn.first.at l.fn.first.line l.states l.ids.ids.now l.initial.views l.views l.cursor.0 l.cursor.1.0 l.k
