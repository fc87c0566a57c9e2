-- `views::tables::Row::first_alike` meets its contract. Assumes nothing.
use mathlib.Core.Path.{refl}
use Rattle.views.proofs.Lows.{least_new, least_slot, slots_keep, slots_put, others_put, others_keep, others_second, others_more}
use Rattle.views.proofs.tables.Row.first_alike.Goals as goal

pub returns-then-s-t : goal.returns-then-s-t
returns-then-s-t c =
    record {
      slots_now = slots_put c.requires.slots c.class-class.ensures c.slot_of-slot.ensures.0 c.from-t.ensures c.if-s-t.true c.slot_of-slot.ensures.1 refl;
      others_now = others_put c.requires.slots c.class-class.ensures c.slot_of-slot.ensures.0 c.from-t.ensures c.requires.others c.if-s-t.true
          c.slot_of-slot.ensures.1 refl;
      least = least_new c.requires.slots c.class-class.ensures c.slot_of-slot.ensures.0 c.from-t.ensures c.if-s-t.true;
    }

pub returns-then-class : goal.returns-then-class
returns-then-class c =
    record {
      slots_now = slots_keep c.requires.slots c.class-class.ensures c.slot_of-slot.ensures.0 c.from-t.ensures c.if-s-t.false;
      others_now = others_keep c.requires.slots c.class-class.ensures c.slot_of-slot.ensures.0 c.from-t.ensures c.requires.others
          c.class.ensures c.if-class.true;
      least = least_slot c.requires.slots
          c.class-class.ensures c.slot_of-slot.ensures.0 c.from-t.ensures c.if-s-t.false c.class.ensures c.if-class.true;
    }

pub first_other-requires-clause-second : goal.first_other-requires-clause-second
first_other-requires-clause-second c =
    others_second c.requires.slots c.class-class.ensures c.slot_of-slot.ensures.0 c.from-t.ensures c.requires.others c.class.ensures c.if-class.false

pub returns : goal.returns
returns c =
    record { slots_now = slots_keep c.requires.slots c.class-class.ensures c.slot_of-slot.ensures.0 c.from-t.ensures c.if-s-t.false; others_now = others_more c.requires.others c.first_other.ensures.noted; least = c.first_other.ensures.least }
