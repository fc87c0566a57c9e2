-- `views::tables::Tables::keeps` meets its contract. Assumes nothing.
use Rattle.views.specs.Guards.{Keeps}
use Rattle.views.proofs.tables.Tables.keeps.Given as goal

abbrev pub invariant-states : goal.invariant-states
invariant-states l = Keeps l.s l.self.model.now.machine.sizes.actions l.self.next.now l.self.low.now l.u l.a
