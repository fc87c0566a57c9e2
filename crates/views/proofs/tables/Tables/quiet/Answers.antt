-- `views::tables::Tables::quiet` meets its contract. Assumes nothing.
use mathlib.Core.Path.{sym, ◌∙◌}
use borrow.Author.Tests.{eq-eqb, ne_eqb}
use Rattle.laws.proofs.Range.{held_none, held_more}
use Rattle.laws.proofs.Loops.{every_yes, every_no}
use Rattle.views.specs.Guards.{quiet_in}
use Rattle.views.proofs.tables.Tables.quiet.Goals as goal

pub states-init : goal.states-init
states-init c = held_none _

pub returns-then-at_state : goal.returns-then-at_state
unfolding quiet_in
returns-then-at_state c =
    every_no _ _ _ c.states-test.true (ne_eqb _ _ (λ e. c.if-at_state.true (c.at_state.ensures ∙ e ∙ sym (rw c.low_of-t.ensures.is_low at
    c.at_state-in-states.ensures))))

pub states-preserved : goal.states-preserved
states-preserved c =
    held_more _ _ c.states.invariant (eq-eqb _ _ (sym c.at_state.ensures ∙ c.if-at_state.false ∙ (rw c.low_of-t.ensures.is_low at
    c.at_state-in-states.ensures)))

pub returns : goal.returns
unfolding quiet_in
returns c = every_yes _ _ c.states-test.false c.states.invariant
