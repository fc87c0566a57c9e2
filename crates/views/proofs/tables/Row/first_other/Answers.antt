-- `views::tables::Row::first_other` meets its contract. Assumes nothing.
use mathlib.Core.Path.{refl}
use Rattle.views.proofs.Lows.{second_new, second_slot, noted_keep, noted_put}
use Rattle.views.proofs.tables.Row.first_other.Goals as goal

pub returns-then-s-t : goal.returns-then-s-t
returns-then-s-t c =
    record {
      noted = noted_put c.requires.second c.class-class.ensures c.other_of-slot.ensures.0 c.from-t.ensures c.if-s-t.true c.other_of-slot.ensures.1 refl;
      least = second_new c.requires.second c.class-class.ensures c.other_of-slot.ensures.0 c.from-t.ensures c.if-s-t.true;
    }

pub returns-then-class : goal.returns-then-class
returns-then-class c =
    record {
      noted = noted_keep c.requires.second c.class-class.ensures c.other_of-slot.ensures.0 c.from-t.ensures c.if-s-t.false;
      least = second_slot c.requires.second
          c.class-class.ensures c.other_of-slot.ensures.0 c.from-t.ensures c.if-s-t.false c.class.ensures c.if-class.true;
    }

pub returns : goal.returns
returns c =
    record { noted = noted_keep c.requires.second c.class-class.ensures c.other_of-slot.ensures.0 c.from-t.ensures c.if-s-t.false; least = c.first_like.ensures }
