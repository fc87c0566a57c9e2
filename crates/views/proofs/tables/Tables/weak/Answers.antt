-- `views::tables::Tables::weak` meets its contract. Assumes nothing.
use native.Mathlib.Omega.{arith}
use mathlib.Core.Path.{◌≡◌, refl}
use lib.ListN.{length}
use borrow.Author.Rules.{rules}
use Rattle.views.specs.Guards.{SPOTS}
use Rattle.laws.proofs.Tests.{not_both}
use Rattle.views.proofs.Linked.{weak_none, weak_keep, weak_put, weak_all}
use Rattle.views.proofs.tables.Tables.weak.Goals as goal

pub states-init : goal.states-init
states-init c = weak_none _ _ _ _ _ _ _

pub returns-then-sends : goal.returns-then-sends
returns-then-sends c = λ e. not_both e refl

pub states-preserved-then-linked : goal.states-preserved-then-linked
states-preserved-then-linked c =
    weak_keep c.states.invariant c.spot_of-i.ensures.0 c.from-t.ensures c.linked.ensures
    c.if-linked.true c.sends.ensures c.sends-then-linked.ensures c.if-sends.false

pub states-preserved : goal.states-preserved
states-preserved c =
    let l : length c.states.spots ≡ SPOTS = search rules in
    weak_put c.states.invariant c.spot_of-i.ensures.0 (omega (arith, c.spot_of-i.ensures.1)) c.from-t.ensures c.linked.ensures c.if-linked.false refl

pub returns : goal.returns
returns c = λ e. weak_all c.states.invariant c.states-test.false
