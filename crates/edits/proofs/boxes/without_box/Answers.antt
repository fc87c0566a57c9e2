-- `edits::boxes::without_box` meets its contract. Assumes nothing.
use Rattle.std.proofs.Common.{rules, tests}
use Rattle.model.specs.Limits.{BOXES}
use Rattle.edits.specs.Records.{blank}
use Rattle.edits.specs.Moved.{left_at, without_box}
use Rattle.edits.proofs.Chains.{made_from}
use Rattle.edits.proofs.boxes.without_box.Goals as goal

pub returns : goal.returns
unfolding without_box
returns c = made_from _ blank BOXES (left_at c.args.list.now c.args.p) _ _ c.from_fn.ensures.items (λ i y q b k. search (rules, tests))
