-- `views::tables::lows` meets its contract. Assumes nothing.
use Rattle.views.specs.Guards.{Filled}
use Rattle.views.proofs.tables.lows.Given as goal

abbrev pub invariant-boxes : goal.invariant-boxes
invariant-boxes l = Filled l.states l.views l.low l.u 0
