-- `views::tables::Row::fill` meets its contract. Assumes nothing.
use Rattle.views.specs.Guards.{Filled, Slots, Others}
use Rattle.views.proofs.tables.Row.fill.Given as goal

abbrev pub invariant-states : goal.invariant-states
invariant-states l = record {
  slots : Slots l.self.states l.self.views.now l.self.u l.s l.slots;
  others : Others l.self.states l.self.views.now l.self.u l.s l.slots l.others;
  filled : Filled l.self.states l.self.views.now l.low l.self.u l.s;
}
