-- `views::tables::Tables::weak` meets its contract. Assumes nothing.
use Rattle.views.proofs.Linked.{WeakTo}
use Rattle.views.proofs.tables.Tables.weak.Given as goal

abbrev pub invariant-states : goal.invariant-states
invariant-states l = WeakTo l.self.model.now.machine.sizes.actions l.self.next.now l.self.low.now l.spots l.u l.o l.a l.s
