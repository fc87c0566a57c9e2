-- `views::tables::Tables::leaks` meets its contract. Assumes nothing.
use mathlib.Core.Path.{◌∙◌}
use Rattle.laws.proofs.Tests.{without_not, without_on, told}
use Rattle.views.specs.Tables.{leaks_in}
use Rattle.views.proofs.tables.Tables.leaks.Goals as goal

pub returns-then-alike : goal.returns-then-alike
unfolding leaks_in
returns-then-alike c =
    rw (c.at_state.ensures, c.at_state-then-alike.ensures) (without_on _ (told _ _ c.alike.ensures c.if-alike.true))

pub returns-else-alike : goal.returns-else-alike
unfolding leaks_in
returns-else-alike c = c.if-alike.false ∙ without_not _ (told _ _ c.alike.ensures c.if-alike.false)
