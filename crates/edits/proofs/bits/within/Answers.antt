-- `edits::bits::within` meets its contract. Assumes nothing.
use mathlib.Core.Path.{sym}
use native.Mathlib.Omega.{arith}
use borrow.Author.Tests.{lt-ltb, le-leb}
use Rattle.laws.proofs.Bits.{small_wide}
use Rattle.edits.proofs.bits.within.Goals as goal

pub returns-then-n-ge32 : goal.returns-then-n-ge32
returns-then-n-ge32 c = rw (le-leb _ _ c.if-n-ge32.true) (sym (lt-ltb _ _ (small_wide c.args.n 32 c.args.set (omega arith) c.if-n-ge32.true)))
