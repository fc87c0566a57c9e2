-- `purge::purged` meets its contract. Assumes nothing.
use mathlib.Core.Path.{sym, ◌∙◌}
use borrow.Author.Tests.{eq-eqb, ne_eqb}
use Rattle.laws.specs.Choice.{choose}
use Rattle.purge.specs.Purged.{purged_of}
use Rattle.purge.proofs.Answers.{askable}
use Rattle.purge.proofs.purged.Goals as goal

pub returns-then-kept-run : goal.returns-then-kept-run
unfolding purged_of choose
returns-then-kept-run c = rw (c.into.ensures, ne_eqb _ _ c.if-kept-run.true)

pub returns-then-not-model_fits : goal.returns-then-not-model_fits
unfolding purged_of choose
returns-then-not-model_fits c =
    rw (c.into-then-not-model_fits.ensures, eq-eqb _ _ c.if-kept-run.false, sym c.model_fits.ensures ∙ c.if-not-model_fits.true)

pub returns-then-not-asked : goal.returns-then-not-asked
unfolding purged_of choose
returns-then-not-asked c =
    rw (
      c.into-then-not-asked.ensures,
      eq-eqb _ _ c.if-kept-run.false,
      sym c.model_fits.ensures ∙ c.if-not-model_fits.false,
      sym c.asked.ensures ∙ c.if-not-asked.true,
    )

pub keep-requires-clause-askable : goal.keep-requires-clause-askable
keep-requires-clause-askable c = askable _ _ _ (sym c.model_fits.ensures ∙ c.if-not-model_fits.false) (sym c.asked.ensures ∙ c.if-not-asked.false)

pub returns : goal.returns
unfolding purged_of choose
returns c =
    rw (eq-eqb _ _ c.if-kept-run.false, sym c.model_fits.ensures ∙ c.if-not-model_fits.false, sym c.asked.ensures ∙ c.if-not-asked.false)
    c.keep.ensures
