-- `views::tables::slot_of` meets its contract. Assumes nothing.
use borrow.Author.Rules.{rules}
use Rattle.views.specs.Guards.{slot_of}
use Rattle.views.proofs.tables.slot_of.Goals as goal

pub returns : goal.returns
unfolding slot_of
returns c = search rules
