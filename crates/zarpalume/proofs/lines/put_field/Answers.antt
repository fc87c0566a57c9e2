-- `zarpalume::lines::put_field` meets its contract. Assumes nothing.
use borrow.Author.Rules.{rules}
use Rattle.zarpalume.proofs.Writing.{number_whole, one_more}
use native.Mathlib.Omega.{arith}
use Rattle.zarpalume.proofs.lines.put_field.Goals as goal

pub bounds-tail-n : goal.bounds-tail-n
bounds-tail-n c = let w = number_whole _ (search rules) c.put_number-n.ensures in let n = w.1 in omega arith

pub returns : goal.returns
returns c =
    let w = number_whole _ (search rules) c.put_number-n.ensures in
    let n = w.1 in
    (one_more _ (omega arith) w.0, omega arith)
