-- `edits::changes::fits_arrow` meets its contract. Assumes nothing.
use native.Mathlib.Omega.{arith}
use Rattle.edits.proofs.Found.{boxes_most}
use Rattle.edits.proofs.changes.fits_arrow.Goals as goal

pub bounds-list-i : goal.bounds-list-i
bounds-list-i c = omega (arith, c.boxes_of-n.ensures, boxes_most c.args.list.now)

pub has-requires : goal.has-requires
has-requires c = omega (arith, c.boxes_of-n.ensures, boxes_most c.args.list.now)
