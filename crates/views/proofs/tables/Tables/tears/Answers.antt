-- `views::tables::Tables::tears` meets its contract. Assumes nothing.
use mathlib.Core.Path.{◌∙◌}
use Rattle.laws.proofs.Tests.{without_not, without_on, told}
use Rattle.views.specs.Tables.{tears_in}
use Rattle.views.proofs.tables.Tables.tears.Goals as goal

pub returns-then-both_alike : goal.returns-then-both_alike
unfolding tears_in
returns-then-both_alike c =
    rw (c.alike.ensures, c.after.ensures.is_next, c.after-then-both_alike.ensures.is_next) (without_on _ (told _ _ c.both_alike.ensures c.if-both_alike.true))

pub returns-else-both_alike : goal.returns-else-both_alike
unfolding tears_in
returns-else-both_alike c = c.if-both_alike.false ∙ without_not _ (told _ _ c.both_alike.ensures c.if-both_alike.false)
