-- `edits::history::cut` meets its contract. Assumes nothing.
use Rattle.std.proofs.Common.{rules}
use Rattle.edits.proofs.Words.{cut_is}
use Rattle.edits.proofs.history.cut.Goals as goal

pub returns : goal.returns
returns c = cut_is c.args.n c.args.words.now c.fill.new.self c.requires c.told-words (search rules)
