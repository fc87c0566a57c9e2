-- `views::tables::Tables::keeps` meets its contract. Assumes nothing.
use mathlib.Core.Path.{refl}
use Rattle.laws.proofs.Tests.{not_both}
use Rattle.views.proofs.Calm.{keeps_none, keeps_more, keeps_all}
use Rattle.views.proofs.tables.Tables.keeps.Goals as goal

pub states-init : goal.states-init
states-init c = keeps_none _ _ _ _ _

pub returns-then-low_of-sends : goal.returns-then-low_of-sends
returns-then-low_of-sends c = λ e. not_both e refl

pub states-preserved : goal.states-preserved
states-preserved c = keeps_more c.states.invariant c.low_of.ensures.is_low c.sends.ensures c.if-low_of-sends.false

pub returns : goal.returns
returns c = λ e. keeps_all c.states.invariant c.states-test.false
