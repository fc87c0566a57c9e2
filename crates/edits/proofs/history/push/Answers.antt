-- `edits::history::push` meets its contract. Assumes nothing.
use Rattle.std.proofs.Common.{rules, arith}
use Rattle.edits.proofs.Words.{push_is}
use Rattle.edits.proofs.history.push.Goals as goal

pub returns : goal.returns
returns c = push_is c.args.n _ c.args.e c.args.words.now _ _ c.requires (omega arith) c.cut.ensures (search rules)
