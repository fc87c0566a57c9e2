-- `views::tables::Tables::both_alike` meets its contract. Assumes nothing.
use Rattle.laws.proofs.Tests.{chain_no, chain_on, told}
use mathlib.Core.Path.{◌∙◌}
use Rattle.views.proofs.tables.Tables.both_alike.Goals as goal

pub returns-then-alike : goal.returns-then-alike
returns-then-alike c = chain_on _ (told _ _ c.alike.ensures c.if-alike.true) c.alike-then-alike.ensures

pub returns-else-alike : goal.returns-else-alike
returns-else-alike c = c.if-alike.false ∙ chain_no _ (told _ _ c.alike.ensures c.if-alike.false)
