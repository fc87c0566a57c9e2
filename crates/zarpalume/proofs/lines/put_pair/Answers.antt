-- `zarpalume::lines::put_pair` meets its contract. Assumes nothing.
use Rattle.text.proofs.Buffer.{lent}
use native.Mathlib.Omega.{arith}
use Rattle.zarpalume.proofs.lines.put_pair.Goals as goal

pub returns : goal.returns
returns c =
    let v = lent c.put_words-a.ensures.0 (omega arith) c.put_field.ensures.0 in
    (lent v (omega arith) c.put_field-2.ensures.0, omega arith)
