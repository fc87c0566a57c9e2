-- `edits::allowed::records_good` meets its contract. Assumes nothing.
use Rattle.std.proofs.Common.{refl, rules, tests}
use Rattle.laws.proofs.Ranges.{all_below}
use Rattle.model.specs.Limits.{BOXES}
use Rattle.edits.specs.Records.{boxes}
use Rattle.edits.specs.Allowed.{good_at}
use Rattle.edits.specs.Private.{said}
use Rattle.edits.proofs.allowed.records_good.Goals as goal

pub returns : goal.returns
returns c = all_below BOXES (good_at c.args.list.now (said c.args.past) (boxes c.args.list.now)) c.all.ensures.ran refl (λ x b q k. search (rules, tests))
