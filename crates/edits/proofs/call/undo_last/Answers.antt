-- `edits::call::undo_last` meets its contract. Assumes nothing.
use native.Mathlib.Omega.{arith}
use Rattle.laws.proofs.Tests.{told}
use Rattle.edits.proofs.Called.{few, undoable}
use Rattle.edits.proofs.call.undo_last.Goals as goal

pub entry_at-e-requires : goal.entry_at-e-requires
entry_at-e-requires c = omega (arith, few _ _ _ c.requires)

pub undo-requires : goal.undo-requires
undo-requires c = undoable _ _ c.told-list c.requires _ (told _ _ c.fits_now.ensures c.if-not-fits_now.false)

pub cut-requires : goal.cut-requires
cut-requires c = omega (arith, few _ _ _ c.requires)
