-- `sheet::lines::position` meets its contract. Assumes nothing.
use Rattle.std.proofs.Common.{eqb, rules, tests}
use Rattle.std.proofs.lemmas.Iterator.{YieldsList-from_slice}
use Rattle.std.proofs.lemmas.Iterator.Search.{position_from_yields_List}
use Rattle.sheet.proofs.Placed.{found_is}
use Rattle.sheet.proofs.lines.position.Goals as goal

pub returns : goal.returns
returns c = found_is c.args.ids.now c.args.id c.position.result (position_from_yields_List (λ x. eqb x c.args.id) _ _ c.position.result c.position.ensures.ran (YieldsList-from_slice c.args.ids.now cc) (λ x b q k. search (rules, tests)))
