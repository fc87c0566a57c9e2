-- `sheet::labels::label_found` meets its contract. Assumes nothing.
use Rattle.std.proofs.Common.{refl}
use Rattle.std.proofs.lemmas.Result.{err_from_is_err_and}
use Rattle.sheet.specs.Reading.{zeros}
use Rattle.sheet.proofs.LabelPlace.{found_box, found_place, found_refused, found_none}
use Rattle.sheet.proofs.labels.label_found.Goals as goal

pub read_text-requires : goal.read_text-requires
unfolding zeros
read_text-requires c = record { next_zero = refl; outputs_zero = refl; views_zero = refl }

pub returns-in_err-model : goal.returns-in_err-model
returns-in_err-model c = let p = err_from_is_err_and c.from_residual.result c.from_residual.ensures.1 in rw (p.1, p.2) (found_refused c.args.text.now c.read_text.result _ _ c.read_text.ensures c.args.position _ c.in_err-model.was)

pub invariant_of-label_place : goal.invariant_of-label_place
invariant_of-label_place c = record { ended = (found_box c.args.text.now c.read_text.result _ _ c.read_text.ensures c.args.position c.in_ok-model.was c.if-position-model.true).closed }

pub label_place-requires-clause-small : goal.label_place-requires-clause-small
label_place-requires-clause-small c = (found_box c.args.text.now c.read_text.result _ _ c.read_text.ensures c.args.position c.in_ok-model.was c.if-position-model.true).small

pub label_place-requires-clause-there : goal.label_place-requires-clause-there
label_place-requires-clause-there c = (found_box c.args.text.now c.read_text.result _ _ c.read_text.ensures c.args.position c.in_ok-model.was c.if-position-model.true).there

pub label_place-requires-clause-three_fields : goal.label_place-requires-clause-three_fields
label_place-requires-clause-three_fields c = (found_box c.args.text.now c.read_text.result _ _ c.read_text.ensures c.args.position c.in_ok-model.was c.if-position-model.true).is.three

pub returns-then-position-model : goal.returns-then-position-model
returns-then-position-model c = found_place c.args.text.now c.read_text.result _ _ c.read_text.ensures c.args.position c.in_ok-model.was c.if-position-model.true c.label_place.ensures

pub returns-else-position-model : goal.returns-else-position-model
returns-else-position-model c = found_none c.args.text.now c.read_text.result _ _ c.read_text.ensures c.args.position c.in_ok-model.was c.if-position-model.false
