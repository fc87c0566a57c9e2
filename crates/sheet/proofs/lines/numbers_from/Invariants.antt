-- `sheet::numbers_from` meets its contract. Assumes nothing.
use Rattle.sheet.proofs.Collect.{At}
use Rattle.sheet.proofs.lines.numbers_from.Given as goal

abbrev pub invariant-loop-k : goal.invariant-loop-k
invariant-loop-k l = At l.line l.from l.limits l.values l.good l.at l.k
