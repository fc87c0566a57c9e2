-- `sheet::labels::line_start` meets its contract: `at` is where the next line starts. Assumes nothing.
use Rattle.std.proofs.Common.{◌≡◌}
use Rattle.sheet.specs.Label.{line_start}
use Rattle.sheet.proofs.labels.line_start.Given as goal

abbrev pub invariant-loop-k : goal.invariant-loop-k
invariant-loop-k l = l.at ≡ line_start l.k l.sheet.text.now
