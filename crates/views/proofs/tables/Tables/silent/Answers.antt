-- `views::tables::Tables::silent` meets its contract. Assumes nothing.
use mathlib.Core.Path.{sym, ◌∙◌}
use Rattle.views.proofs.Calm.{alone_quiet}
use Rattle.views.proofs.tables.Tables.silent.Goals as goal

pub returns-then-alones-o : goal.returns-then-alones-o
returns-then-alones-o c = c.if-alones-o.true ∙ sym (alone_quiet _ _ _ _ _ _ (c.requires.alones.alone _ c.if-alones-o.true))
