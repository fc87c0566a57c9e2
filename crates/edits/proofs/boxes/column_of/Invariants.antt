-- `edits::boxes::column_of` meets its contract: the boxes passed are gathered. Assumes nothing.
use Rattle.std.proofs.Common.{◌≡◌}
use Rattle.laws.specs.Bits.{gather}
use Rattle.edits.specs.Moved.{arrow_into}
use Rattle.edits.proofs.boxes.column_of.Given as goal

abbrev pub invariant-loop-k : goal.invariant-loop-k
invariant-loop-k l = l.column ≡ gather 0 l.k (arrow_into l.list l.p)
