-- `views::tables::other_of` meets its contract. Assumes nothing.
use borrow.Author.Rules.{rules}
use Rattle.views.specs.Guards.{other_of}
use Rattle.views.proofs.tables.other_of.Goals as goal

pub returns : goal.returns
unfolding other_of
returns c = search rules
