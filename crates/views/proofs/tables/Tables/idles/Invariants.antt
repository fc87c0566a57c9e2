-- `views::tables::Tables::idles` meets its contract. Assumes nothing.
use Rattle.views.specs.Guards.{Kept}
use Rattle.views.proofs.tables.Tables.idles.Given as goal

abbrev pub invariant-actions : goal.invariant-actions
invariant-actions l = Kept l.self.model.now.machine.sizes.states l.self.model.now.machine.sizes.actions l.self.next.now l.self.low.now l.kept
