-- `edits::boxes::place_of` meets its contract. Assumes nothing.
use Rattle.std.proofs.Common.{◌∙◌, rules, tests}
use Rattle.std.proofs.lemmas.Iterator.{YieldsList-from_slice}
use Rattle.std.proofs.lemmas.Iterator.Search.{position_from_yields_List}
use Rattle.edits.specs.Records.{is_with}
use Rattle.edits.proofs.Found.{place_option}
use Rattle.edits.proofs.boxes.place_of.Goals as goal

pub returns-clause-place : goal.returns-clause-place
returns-clause-place c =
    let l = c.args.list.now in
    position_from_yields_List (λ b. is_with b c.args.id) _ _ c.position.result c.position.ensures.ran (YieldsList-from_slice l cc) (λ x b q k. search (rules, tests))
    ∙ place_option l c.args.id c.told-list
