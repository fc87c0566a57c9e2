-- `views::tables::Tables::moves` meets its contract. Assumes nothing.
use Rattle.views.specs.Tables.{moves_in}
use Rattle.views.proofs.tables.Tables.moves.Goals as goal

pub returns : goal.returns
unfolding moves_in
returns c = rw (c.alike.ensures, c.after.ensures.is_next)
