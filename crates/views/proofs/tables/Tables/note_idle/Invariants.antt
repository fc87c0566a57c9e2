-- `views::tables::Tables::note_idle` meets its contract. Assumes nothing.
use Rattle.views.specs.Guards.{Kept}
use Rattle.views.proofs.tables.Tables.note_idle.Given as goal

abbrev pub invariant-boxes : goal.invariant-boxes
invariant-boxes l = Kept l.self.model.now.machine.sizes.states l.self.model.now.machine.sizes.actions l.self.next.now l.self.low.now l.kept
