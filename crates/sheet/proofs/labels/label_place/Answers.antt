-- `sheet::labels::label_place` meets its contract. Assumes nothing.
use native.Mathlib.Omega.{arith}
use Rattle.sheet.proofs.LabelPlace.{end_within, word_within, id_within, place_is}
use Rattle.sheet.proofs.labels.label_place.Goals as goal

pub slice_bounds-line-end : goal.slice_bounds-line-end
slice_bounds-line-end c = omega (arith, end_within c.args.position c.args.sheet.ended c.requires.there c.requires.three_fields c.line_start-start.ensures c.find-end.ensures)

pub overflow_add-word : goal.overflow_add-word
overflow_add-word c = omega (arith, word_within c.args.position c.args.sheet.ended c.requires.there c.requires.three_fields c.line_start-start.ensures c.find-end.ensures c.find-word.ensures)

pub overflow_add-result : goal.overflow_add-result
overflow_add-result c = omega (arith, id_within c.args.position c.args.sheet.ended c.requires.there c.requires.three_fields c.line_start-start.ensures c.find-end.ensures c.find-word.ensures c.find-id.ensures)

pub overflow_add-result-2 : goal.overflow_add-result-2
overflow_add-result-2 c = omega (arith, id_within c.args.position c.args.sheet.ended c.requires.there c.requires.three_fields c.line_start-start.ensures c.find-end.ensures c.find-word.ensures c.find-id.ensures)

pub returns : goal.returns
returns c = place_is c.args.position c.args.sheet.ended c.requires.there c.requires.three_fields c.line_start-start.ensures c.find-end.ensures c.find-word.ensures c.find-id.ensures
