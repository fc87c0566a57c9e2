-- `edits::bits::cut_of` meets its contract. Assumes nothing.
use Rattle.laws.proofs.Bits.{cut_is}
use Rattle.edits.proofs.bits.cut_of.Goals as goal

pub returns : goal.returns
returns c = rw c.power-low.ensures (cut_is c.args.p c.args.set)
