-- `text::more_from` meets its contract: what is left to read from `i` on says the same as what was from `at` on. Assumes nothing.
use Rattle.std.proofs.Common.{◌≡◌, ℕ, ◌+◌, ◌<◌, List}
use Rattle.text.specs.Lines.{more_from}
use Rattle.text.proofs.more_from.Given as goal

pub record Left (limit : ℕ) (line : List ℕ) (at first i value : ℕ) : Type 0 where
  pub some : 0 < value
  pub says : more_from limit line i value ≡ more_from limit line at first

abbrev pub invariant-loop-i : goal.invariant-loop-i
invariant-loop-i l = Left l.limit l.line l.at l.first (l.at + l.i) l.value
