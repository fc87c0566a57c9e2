-- `views::tables::Tables::strong` meets its contract. Assumes nothing.
use lib.Dec.{eqb}
use Rattle.laws.specs.Range.{Held}
use Rattle.views.specs.Guards.{low_at, sent}
use Rattle.views.proofs.tables.Tables.strong.Given as goal

abbrev pub invariant-states : goal.invariant-states
invariant-states l = Held l.s (λ s. eqb (sent l.self.model.now.machine.sizes.actions l.self.next.now l.self.low.now l.u l.a s) (sent l.self.model.now.machine.sizes.actions l.self.next.now l.self.low.now l.u l.a (low_at l.self.low.now l.u s)))
