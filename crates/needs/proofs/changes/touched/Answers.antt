-- `needs::changes::touched` meets its contract.
use Rattle.needs.proofs.Looking.{touched_skip, touched_merge}
use Rattle.needs.proofs.changes.touched.Goals.{then-d-x, else-d-x}
use Rattle.needs.proofs.changes.touched.Goals as goal

pub states-preserved : goal.states-preserved
states-preserved c =
    elim c.if-d-x.branch [
      | then-d-x w ↦ rw w.marks-is (touched_merge c.states.invariant w.merge.ensures)
      | else-d-x w ↦ rw w.marks-is (touched_skip c.states.invariant c.from-old.ensures w.if-d-x.false)
    ]
