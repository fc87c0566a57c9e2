-- `needs::changes::leading` meets its contract.
use Rattle.std.proofs.Common.{arith, ◌≡◌, ◌<◌, ◌∙◌, length}
use Rattle.std.specs.Prelude.{take}
use Rattle.std.proofs.lemmas.List.{get_or-take}
use Rattle.needs.proofs.Moving.{covered_more}
use Rattle.needs.proofs.changes.leading.Goals as goal

pub loop-x-preserved : goal.loop-x-preserved
loop-x-preserved c =
    let m = c.args.moved.now in
    let l : c.loop-x.x-index < m.count = omega arith in
    covered_more c.loop-x.invariant (c.from.ensures ∙ get_or-take m.count m.list c.loop-x.x-index 0 l) c.merge.ensures
