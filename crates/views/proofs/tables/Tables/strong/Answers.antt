-- `views::tables::Tables::strong` meets its contract. Assumes nothing.
use mathlib.Core.Path.{sym, ap, ◌∙◌}
use borrow.Author.Tests.{eq-eqb, ne_eqb}
use Rattle.laws.proofs.Range.{held_none, held_more}
use Rattle.laws.proofs.Loops.{every_yes, every_no}
use Rattle.views.specs.Guards.{sent, strong_in}
use Rattle.views.proofs.tables.Tables.strong.Goals as goal

pub states-init : goal.states-init
states-init c = held_none _

pub states-preserved-then-t-s : goal.states-preserved-then-t-s
states-preserved-then-t-s c =
    let k = c.args in
    held_more _ _ c.states.invariant (eq-eqb _ _ (ap (sent k.self.now.model.now.machine.sizes.actions k.self.now.next.now k.self.now.low.now k.u k.a)
    (sym c.if-t-s.true ∙ c.low_of-t.ensures.is_low)))

pub returns-then-sends : goal.returns-then-sends
unfolding strong_in
returns-then-sends c =
    every_no _ _ _ c.states-test.true (ne_eqb _ _ (λ e. c.if-sends.true (c.sends.ensures ∙ e ∙ sym (rw c.low_of-t.ensures.is_low at
    c.sends-in-states.ensures))))

pub states-preserved : goal.states-preserved
states-preserved c =
    held_more _ _ c.states.invariant (eq-eqb _ _ (sym c.sends.ensures ∙ c.if-sends.false ∙ (rw c.low_of-t.ensures.is_low at
    c.sends-in-states.ensures)))

pub returns : goal.returns
unfolding strong_in
returns c = every_yes _ _ c.states-test.false c.states.invariant
