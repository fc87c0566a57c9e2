-- `text::Reader::next_line` meets its contract. Assumes nothing.
use Rattle.std.proofs.Common.{arith}
use Rattle.text.proofs.Parts.{end_within}
use Rattle.text.proofs.Reader.next_line.Goals as goal

pub overflow_add-result : goal.overflow_add-result
overflow_add-result c = omega (arith, end_within c.args.self.text.now 10 c.args.self.at (omega arith), c.find-lf.ensures)
