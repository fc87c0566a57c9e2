-- `edits::boxes::with_box` meets its contract. Assumes nothing.
use Rattle.std.proofs.Common.{rules, tests}
use Rattle.model.specs.Limits.{BOXES}
use Rattle.edits.specs.Records.{blank}
use Rattle.edits.specs.Moved.{back_at, with_box}
use Rattle.edits.proofs.Chains.{made_from}
use Rattle.edits.proofs.boxes.with_box.Goals as goal

pub returns : goal.returns
unfolding with_box
returns c = made_from _ blank BOXES (back_at c.args.list.now c.args.p c.args.item c.args.into) _ _ c.from_fn.ensures.items (λ i y q b k. search (rules, tests))
