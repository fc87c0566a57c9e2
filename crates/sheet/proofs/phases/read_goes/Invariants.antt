-- `sheet::phases::read_goes` meets its contract. Assumes nothing.
use Rattle.std.proofs.Common.{◌≡◌, ℕ, ◌*◌, ◌/◌, ◌%◌, List, length, drop, set}
use Rattle.text.specs.Lines.{lines}
use Rattle.sheet.specs.Numbers.{Record}
use Rattle.sheet.specs.Phases.{Steps, steps, goes}
use Rattle.sheet.specs.Records.{go_line}
use Rattle.sheet.proofs.Going.{Going}
use Rattle.sheet.proofs.phases.read_goes.Given as goal

abbrev pub due : ℕ → ℕ → ℕ → Steps → List ℕ → Record
due states actions k _ = go_line states (k / actions) (k % actions)

abbrev pub kept : ℕ → Steps → ℕ → ℕ → ℕ → ℕ → Steps
kept k t _ _ next output = steps (set t.next k next) (set t.outputs k output)

pub record At (t : List ℕ) (from first states actions : ℕ) (next₀ outputs₀ next outputs : List ℕ) (at n k : ℕ) : Type 0 where
  pub next_length : length next ≡ length next₀
  pub outputs_length : length outputs ≡ length outputs₀
  pub going : Going (due states actions) kept t (goes states actions (steps next₀ outputs₀) (lines (drop from t)) first) (states * actions) k (steps next outputs) at n

abbrev pub invariant-loop-k : goal.invariant-loop-k
invariant-loop-k l = At l.sheet.text.now l.fn.first.at l.fn.first.line l.states l.actions l.initial.next l.initial.outputs l.next l.outputs l.cursor.0 l.cursor.1.0 l.k
