-- `purge::keep` meets its contract. Assumes nothing.
use Rattle.purge.proofs.Written.{box_small, kept_written}
use Rattle.purge.proofs.keep.Goals as goal

pub interferers-target-requires : goal.interferers-target-requires
interferers-target-requires c = box_small _ _ _ c.requires.askable

pub returns : goal.returns
returns c =
    kept_written _ _ _ _ _ c.requires.askable c.interferers-target.ensures _ _ c.added-into.ensures c.mark.ensures
    c.gather.ensures.count c.gather.ensures.gathered
