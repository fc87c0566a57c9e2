-- `edits::changes::fits_add` meets its contract. Assumes nothing.
use native.Mathlib.Omega.{arith}
use Rattle.edits.proofs.Found.{boxes_most}
use Rattle.edits.proofs.changes.fits_add.Goals as goal

pub is_alone-requires : goal.is_alone-requires
is_alone-requires c = omega (arith, c.boxes_of-n.ensures, boxes_most c.args.list.now)
