-- `needs::sort` meets its contract.
use Rattle.std.proofs.Common.{refl, sym, ◌∙◌}
use Rattle.needs.proofs.Sorting.{sorting_none, sorting_more, sorting_silent}
use Rattle.needs.proofs.sort.Goals.{then-observes, else-observes}
use Rattle.needs.proofs.sort.Goals as goal

pub boxes-init : goal.boxes-init
boxes-init c = sorting_none c.args.tables.now.fitting c.requires

pub boxes-preserved : goal.boxes-preserved
boxes-preserved c =
    let i = c.boxes.invariant in
    elim c.if-observes.branch [
      | then-observes w ↦ rw (w.table-is, w.depths-is) (sorting_more i w.refine-refinement.result.numbers refl c.boxes-test.true w.refine-refinement.ensures w.mark.ensures)
      | else-observes w ↦ rw (w.table-is, w.depths-is) (sorting_silent i refl c.boxes-test.true (sym c.observes.ensures ∙ w.if-observes.false))
    ]
