-- `sheet::self_arrows` meets its contract: the first `k` boxes have theirs. Assumes nothing.
use mathlib.Core.Path.{◌≡◌}
use lib.ListN.{replicate}
use Rattle.model.specs.Limits.{BOXES}
use Rattle.model.specs.Arrows.{selves}
use Rattle.sheet.proofs.phases.self_arrows.Given as goal

abbrev pub invariant-loop-k : goal.invariant-loop-k
invariant-loop-k l = l.arrows ≡ selves l.k (replicate BOXES 0)
