-- `needs::rounds::ClassesLikeness::slot` meets its contract.
use Rattle.std.proofs.Common.{◌∙◌, ap, arith}
use Rattle.needs.specs.Tables.{entry}
use Rattle.needs.proofs.Starting.{slot_begun, slot_more, slot_bound}
use Rattle.needs.proofs.rounds.ClassesLikeness.slot.Goals as goal

pub actions-init : goal.actions-init
actions-init c = slot_begun _

pub overflow_mul-slot : goal.overflow_mul-slot
overflow_mul-slot c = omega (arith, slot_bound _ _ c.actions.invariant)

pub overflow_add-slot : goal.overflow_add-slot
overflow_add-slot c = let w = c.args.self.now in let l = c.step-x.ensures.a_state in omega (arith, slot_bound _ _ c.actions.invariant, c.from.ensures, w.below.upto _ l, l, w.walk.steps.states_most)

pub actions-preserved : goal.actions-preserved
actions-preserved c = slot_more _ c.actions.invariant (c.from.ensures ∙ ap (entry c.args.self.now.numbers.now) c.step-x.ensures.value)

pub returns-clause-small : goal.returns-clause-small
returns-clause-small c = slot_bound _ _ c.actions.invariant
