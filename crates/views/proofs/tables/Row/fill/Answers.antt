-- `views::tables::Row::fill` meets its contract. Assumes nothing.
use mathlib.Core.Path.{refl}
use Prim.Native.Nat.{ℕ}
use lib.ListN.{length-replicate}
use Rattle.views.specs.Guards.{SLOTS}
use Rattle.views.proofs.Lows.{slots_none, others_none, filled_more, filled_row}
use Rattle.views.proofs.tables.Row.fill.Goals as goal

pub states-init : goal.states-init
states-init c = record {
  slots = slots_none _ _ _ _ (length-replicate {A = ℕ} SLOTS 255);
  others = others_none _ _ _ _ _ (length-replicate {A = ℕ} SLOTS 255);
  filled = c.requires;
}

pub states-preserved : goal.states-preserved
states-preserved c = record {
  slots = c.first_alike-r.ensures.slots_now;
  others = c.first_alike-r.ensures.others_now;
  filled = filled_more c.states.invariant.filled c.args.self.now.states_most c.args.self.now.box_in c.states-test.true c.first_alike-r.ensures.least refl;
}

pub returns : goal.returns
returns c = filled_row c.states.invariant.filled c.states-test.false
