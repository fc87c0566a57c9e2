-- `edits::history::Past::deletes` meets its contract. Assumes nothing.
use Rattle.std.proofs.Common.{refl, rules, tests}
use Rattle.laws.proofs.Ranges.{any_below}
use Rattle.edits.specs.History.{entry, takes, deleted_by}
use Rattle.edits.proofs.history.Past.deletes.Goals as goal

pub returns : goal.returns
unfolding deleted_by
returns c = any_below c.args.self.count (λ k. takes (entry c.args.self.words.now k) c.args.id) c.any.ensures.ran refl (λ x b q k. search (rules, tests))
