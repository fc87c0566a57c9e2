-- `views::tables::Tables::alones` meets its contract. Assumes nothing.
use native.Mathlib.Omega.{arith}
use Rattle.views.proofs.Calm.{alones_none, alones_more}
use Rattle.views.proofs.tables.Tables.alones.Goals as goal

pub boxes-init : goal.boxes-init
boxes-init c = alones_none _ _

pub boxes-preserved : goal.boxes-preserved
boxes-preserved c =
    let g = c.args.self.now.good.machine.sizes in
    alones_more c.boxes.invariant (omega (arith, g.boxes_most)) c.alone.ensures
