-- `views::tables::Tables::alike` meets its contract. Assumes nothing.
use borrow.Author.Rules.{rules}
use Rattle.views.specs.Tables.{alike_in}
use Rattle.views.proofs.tables.Tables.alike.Goals as goal

pub returns : goal.returns
unfolding alike_in
returns c = search rules
