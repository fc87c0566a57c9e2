-- `edits::boxes::boxes_of` meets its contract. Assumes nothing.
use Rattle.std.proofs.Common.{ap, ◌∙◌, not, rules, tests}
use Rattle.std.specs.Option.{unwrap_or}
use Rattle.std.proofs.lemmas.Iterator.{YieldsList-from_slice}
use Rattle.std.proofs.lemmas.Iterator.Search.{position_from_yields_List}
use Rattle.model.specs.Limits.{BOXES}
use Rattle.edits.specs.Records.{lives}
use Rattle.edits.proofs.Found.{boxes_option}
use Rattle.edits.proofs.boxes.boxes_of.Goals as goal

pub returns : goal.returns
returns c =
    let l = c.args.list.now in
    let found = position_from_yields_List (λ b. not (lives b)) _ _ c.position.result c.position.ensures.ran (YieldsList-from_slice l cc) (λ x b q k. search (rules, tests)) in
    c.unwrap_or.ensures ∙ ap (λ r. unwrap_or r BOXES) found ∙ boxes_option l c.told-list
