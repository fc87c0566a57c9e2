-- `needs::arrows::mark_state` meets its contract.
use Rattle.std.proofs.Common.{arith, ◌<◌}
use Rattle.model.specs.Limits.{BOXES}
use Rattle.needs.proofs.Marking.{moved_none, moved_keep, moved_put, moved_all}
use Rattle.needs.proofs.arrows.mark_state.Goals as goal

pub actions-init : goal.actions-init
actions-init c = moved_none _ _ _ _ c.requires.table_long

pub actions-preserved-then-c-t : goal.actions-preserved-then-c-t
actions-preserved-then-c-t c = moved_keep _ _ _ _ c.actions.invariant c.step-t.ensures.value c.if-c-t.true

pub actions-preserved : goal.actions-preserved
actions-preserved c = let o : c.from-v.result < BOXES = omega (arith, c.from-v.ensures, c.requires.owners.owner_in _ c.actions-test.true) in moved_put _ _ _ _ c.actions.invariant c.step-t.ensures.value c.if-c-t.false c.from-v.ensures o c.requires.bounds.1

pub returns : goal.returns
returns c = moved_all _ _ _ _ c.actions.invariant _ (omega arith)
