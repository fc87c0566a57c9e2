-- The numbers of the refusals.
use Rattle.std.specs.Prelude.{ℕ}
use Rattle.model.specs.declared.refusal.Refusal.{Refusal}
use Rattle.model.specs.declared.refusal.Refusal.TheVariants.{Text, Record, Fields, Number, Size, Order, SameId, UnknownId, Label, Length, Ended, Rules, Range, UsedId, NoRoom, NothingToUndo, LongHistory, Arrow}
use Rattle.model.specs.declared.refusal.Refused.{Refused}

abbrev pub number_of : Refusal → ℕ
number_of Text = 1
number_of Record = 2
number_of Fields = 3
number_of Number = 4
number_of Size = 5
number_of Order = 6
number_of SameId = 7
number_of UnknownId = 8
number_of Label = 9
number_of Length = 10
number_of Ended = 11
number_of Rules = 12
number_of Range = 13
number_of UsedId = 14
number_of NoRoom = 15
number_of NothingToUndo = 16
number_of LongHistory = 17
number_of Arrow = 18

-- a refusal and the line that it names
abbrev pub refused_as : Refusal → ℕ → Refused
refused_as refusal line = record { refusal = refusal; line = line }
