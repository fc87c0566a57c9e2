-- `needs::arrows::mark` meets its contract.
use Rattle.needs.proofs.Marking.{sources_none, sources_skip, sources_more}
use Rattle.needs.proofs.arrows.mark.Goals.{then-inside-s, else-inside-s}
use Rattle.needs.proofs.arrows.mark.Goals as goal

pub states-init : goal.states-init
states-init c = sources_none _ _ _ _ _ c.requires.table_long

pub states-preserved : goal.states-preserved
states-preserved c =
    elim c.if-inside-s.branch [
      | then-inside-s w ↦ rw w.table-is (sources_more _ _ _ _ _ c.states.invariant w.if-inside-s.true w.mark_state.ensures)
      | else-inside-s w ↦ rw w.table-is (sources_skip _ _ _ _ _ c.states.invariant w.if-inside-s.false)
    ]
