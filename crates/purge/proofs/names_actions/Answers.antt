-- `purge::names_actions` meets its contract. Assumes nothing.
use mathlib.Core.Path.{◌∙◌}
use lib.Dec.{ltb}
use Rattle.std.proofs.Common.{rules, tests}
use Rattle.std.proofs.lemmas.Iterator.{YieldsList-from_slice}
use Rattle.std.proofs.lemmas.Iterator.Search.{all_from_yields_List}
use Rattle.laws.proofs.Ranges.{each_passes}
use Rattle.purge.specs.Purged.{names_actions}
use Rattle.purge.proofs.names_actions.Goals as goal

pub returns : goal.returns
unfolding names_actions
returns c =
    all_from_yields_List (λ x. ltb x c.args.actions) _ _ _ c.all.ensures.ran (YieldsList-from_slice c.args.run.now cc) (λ x b q k. search (rules, tests))
    ∙ each_passes (λ x. ltb x c.args.actions) 0 c.args.run.now
