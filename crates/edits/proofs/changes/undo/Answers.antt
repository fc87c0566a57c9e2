-- `edits::changes::undo` meets its contract. Assumes nothing.
use native.Mathlib.Omega.{arith}
use Rattle.edits.proofs.Found.{boxes_most}
use Rattle.edits.proofs.changes.undo.Goals as goal

pub bounds-list-n : goal.bounds-list-n
bounds-list-n c = omega (arith, c.boxes_of-n.ensures, boxes_most c.args.list.now)

pub offset_bounds-list-n : goal.offset_bounds-list-n
offset_bounds-list-n c = omega (arith, c.boxes_of-n.ensures, boxes_most c.args.list.now)
