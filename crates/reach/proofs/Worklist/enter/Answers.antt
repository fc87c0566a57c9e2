-- `reach::Worklist::enter` meets its contract. Assumes nothing.
use native.Mathlib.Omega.{arith}
use Rattle.reach.proofs.Exploring.{room, entered}
use Rattle.reach.proofs.Worklist.enter.Goals as goal

pub offset_bounds-self-self : goal.offset_bounds-self-self
offset_bounds-self-self c =
    let q = c.requires in
    omega (arith, room q.good_table q.looking q.action_in c.at-t.ensures c.if-not-self-t.true, q.good_table.machine.sizes.states_most)

pub bounds-self-self : goal.bounds-self-self
bounds-self-self c =
    let q = c.requires in
    omega (arith, room q.good_table q.looking q.action_in c.at-t.ensures c.if-not-self-t.true, q.good_table.machine.sizes.states_most)

pub overflow_add-self : goal.overflow_add-self
overflow_add-self c =
    let q = c.requires in
    omega (arith, room q.good_table q.looking q.action_in c.at-t.ensures c.if-not-self-t.true, q.good_table.machine.sizes.states_most)

pub returns-then-not-self-t-clause-looking : goal.returns-then-not-self-t-clause-looking
returns-then-not-self-t-clause-looking c =
    let q = c.requires in
    entered q.good_table q.looking q.action_in c.at-t.ensures c.if-not-self-t.true
