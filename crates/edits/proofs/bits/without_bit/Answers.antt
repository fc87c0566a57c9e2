-- `edits::bits::without_bit` meets its contract. Assumes nothing.
use native.Mathlib.Omega.{arith}
use Rattle.laws.proofs.Bits.{bit_part}
use Rattle.edits.proofs.bits.without_bit.Goals as goal

pub overflow_sub-result : goal.overflow_sub-result
overflow_sub-result c = omega (arith, bit_part c.args.k c.args.set c.requires.1)
