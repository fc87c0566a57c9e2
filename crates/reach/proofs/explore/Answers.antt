-- `reach::explore` meets its contract. Assumes nothing.
use native.Mathlib.Omega.{arith}
use Rattle.reach.proofs.Exploring.{entered_most, explored_start, complete}
use Rattle.reach.proofs.explore.Goals as goal

pub work-init : goal.work-init
work-init c =
    let e = c.new-list.ensures in
    rw (e.entered.0, e.counts.0, e.counts.1) (explored_start c.requires e.entered.1)

pub work-smaller : goal.work-smaller
work-smaller c =
    let i = c.work.invariant in
    omega (arith, entered_most c.requires i, c.look.ensures.one_more, c.work-test.true)

pub returns : goal.returns
returns c = complete c.requires c.work.invariant c.work-test.false
