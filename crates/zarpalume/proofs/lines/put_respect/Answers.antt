-- `zarpalume::lines::put_respect` meets its contract. Assumes nothing.
use Rattle.text.proofs.Buffer.{lent}
use native.Mathlib.Omega.{arith}
use Rattle.zarpalume.proofs.lines.put_respect.Goals as goal

pub returns : goal.returns
returns c = (lent c.put_place-a.ensures.0 (omega arith) c.put_words.ensures.0, omega arith)
