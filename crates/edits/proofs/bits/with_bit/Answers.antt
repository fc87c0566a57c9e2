-- `edits::bits::with_bit` meets its contract. Assumes nothing.
use native.Mathlib.Omega.{arith}
use Rattle.laws.proofs.Bits.{draw_small}
use Rattle.edits.proofs.bits.with_bit.Goals as goal

pub overflow_add-result : goal.overflow_add-result
overflow_add-result c = record { fits = omega (arith, draw_small c.args.k 32 c.args.set c.requires.0 (omega arith) c.requires.1) }
