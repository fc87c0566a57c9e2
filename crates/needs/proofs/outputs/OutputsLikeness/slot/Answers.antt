-- `needs::outputs::OutputsLikeness::slot` meets its contract.
use Rattle.std.proofs.Common.{arith}
use Rattle.needs.proofs.Starting.{slot_begun, slot_more, slot_bound}
use Rattle.needs.proofs.outputs.OutputsLikeness.slot.Goals as goal

pub actions-init : goal.actions-init
actions-init c = slot_begun _

pub overflow_mul-slot : goal.overflow_mul-slot
overflow_mul-slot c = omega (arith, slot_bound _ _ c.actions.invariant)

pub overflow_add-slot : goal.overflow_add-slot
overflow_add-slot c = omega (arith, slot_bound _ _ c.actions.invariant, c.output.ensures.small)

pub actions-preserved : goal.actions-preserved
actions-preserved c = slot_more _ c.actions.invariant c.output.ensures.value

pub returns-clause-small : goal.returns-clause-small
returns-clause-small c = slot_bound _ _ c.actions.invariant
