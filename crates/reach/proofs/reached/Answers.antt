-- `reach::reached` meets its contract.
-- Assumes nothing.
use mathlib.Core.Path.{sym, ◌∙◌, ap}
use Rattle.std.specs.Prelude.{Err}
use Rattle.model.proofs.Good.{table_good}
use Rattle.reach.proofs.Answered.{refused_length, refused_rules, found_set}
use Rattle.reach.proofs.reached.Goals as goal

pub returns-then-next-ne-NEXT_ENTRIES : goal.returns-then-next-ne-NEXT_ENTRIES
returns-then-next-ne-NEXT_ENTRIES c = ap Err c.into.ensures ∙ refused_length _ _ c.if-next-ne-NEXT_ENTRIES.true

pub returns-then-not-machine_table_fits : goal.returns-then-not-machine_table_fits
returns-then-not-machine_table_fits c =
    ap Err c.into-then-not-machine_table_fits.ensures ∙ refused_rules _ _ c.if-next-ne-NEXT_ENTRIES.false
    (sym c.machine_table_fits.ensures ∙ c.if-not-machine_table_fits.true)

pub explore-requires : goal.explore-requires
explore-requires c = (table_good _ _).0 (sym c.machine_table_fits.ensures ∙ c.if-not-machine_table_fits.false)

pub returns : goal.returns
returns c = found_set _ _ _ c.if-next-ne-NEXT_ENTRIES.false (sym c.machine_table_fits.ensures ∙ c.if-not-machine_table_fits.false) c.explore.ensures
