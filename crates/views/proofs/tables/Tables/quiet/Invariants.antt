-- `views::tables::Tables::quiet` meets its contract. Assumes nothing.
use Prim.Native.Nat.{◌+◌, ◌*◌}
use lib.Dec.{eqb}
use lib.ListN.{get_or}
use Rattle.laws.specs.Range.{Held}
use Rattle.views.specs.Guards.{low_at}
use Rattle.views.proofs.tables.Tables.quiet.Given as goal

abbrev pub invariant-states : goal.invariant-states
invariant-states l = Held l.s (λ s.
    eqb (get_or l.outputs (s * l.self.model.now.machine.sizes.actions + l.a) 0) (get_or l.outputs (low_at l.self.low.now l.o s * l.self.model.now.machine.sizes.actions + l.a) 0))
