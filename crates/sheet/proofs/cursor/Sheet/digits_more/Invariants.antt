-- `sheet::cursor::Sheet::digits_more` meets its contract: what is read from `i` on, after the digits passed, is what is read from `at` on. Assumes nothing.
use Rattle.std.specs.Prelude.{Option}
use Prim.Native.Nat.{ℕ, ◌-◌, ◌<◌}
use mathlib.Core.List.{List}
use lib.ListN.{length}
use Rattle.sheet.specs.declared.Digits.{Digits}
use Rattle.sheet.specs.OnePass.{MoreRead}
use Rattle.sheet.proofs.cursor.Sheet.digits_more.Given as goal

pub record Left (limit : ℕ) (t : List ℕ) (stop at first i value : ℕ) : Type 0 where
  pub within : i < length t
  pub some : 0 < value
  pub back : (r : Option Digits) → MoreRead limit t stop i value r → MoreRead limit t stop at first r

abbrev pub invariant-loop-v : goal.invariant-loop-v
invariant-loop-v l = Left l.limit l.self.text.now l.stop l.at l.first l.i l.value

abbrev pub decreases-loop-v : goal.decreases-loop-v
decreases-loop-v l = length l.self.text.now - l.i
