-- `views::tables::lows` meets its contract. Assumes nothing.
use Rattle.views.proofs.Lows.{filled_none, filled_all}
use Rattle.views.proofs.tables.lows.Goals as goal

pub boxes-init : goal.boxes-init
boxes-init c = filled_none _ _

pub returns : goal.returns
returns c = filled_all c.boxes.invariant c.boxes-test.false
