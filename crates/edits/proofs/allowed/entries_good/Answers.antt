-- `edits::allowed::entries_good` meets its contract. Assumes nothing.
use Rattle.std.proofs.Common.{refl, rules, tests}
use Rattle.laws.proofs.Ranges.{all_below}
use Rattle.edits.specs.Allowed.{good_entry}
use Rattle.edits.proofs.allowed.entries_good.Goals as goal

pub returns : goal.returns
returns c = all_below c.args.past.count (good_entry c.args.past.words.now) c.all.ensures.ran refl (λ x b q k. search (rules, tests))
