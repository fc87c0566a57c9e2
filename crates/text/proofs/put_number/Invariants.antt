-- `text::put_number` meets its contract: the digits of what is left, with those that are set after them, are the value's. Assumes nothing.
use Rattle.std.proofs.Common.{◌≡◌, ℕ, suc, ◌^◌, ◌<◌, ◌≤◌, List, ◌++◌, length, drop}
use Rattle.text.specs.Number.{decimal, digits}
use Rattle.text.proofs.put_number.Given as goal

pub record At (value : ℕ) (ds : List ℕ) (left i : ℕ) : Type 0 where
  pub within : i ≤ 9
  pub room : length ds ≡ 10
  pub short : left < 10 ^ suc i
  pub rest : digits (suc i) left ++ drop (suc i) ds ≡ decimal value

abbrev pub invariant-loop-left : goal.invariant-loop-left
invariant-loop-left l = At l.value l.digits l.left l.i

abbrev pub decreases-loop-left : goal.decreases-loop-left
decreases-loop-left l = l.left
