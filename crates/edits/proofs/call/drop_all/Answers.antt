-- `edits::call::drop_all` meets its contract. Assumes nothing.
use Rattle.edits.proofs.Words.{kept_none}
use Rattle.edits.proofs.call.drop_all.Goals as goal

pub returns : goal.returns
returns c = rw (c.cut.ensures, kept_none c.args.words.now)
