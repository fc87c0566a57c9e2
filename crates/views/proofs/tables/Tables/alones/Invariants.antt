-- `views::tables::Tables::alones` meets its contract. Assumes nothing.
use Rattle.views.specs.Guards.{Alones}
use Rattle.views.proofs.tables.Tables.alones.Given as goal

abbrev pub invariant-boxes : goal.invariant-boxes
invariant-boxes l = Alones l.self.model.now.machine.sizes.states l.self.low.now l.alones
