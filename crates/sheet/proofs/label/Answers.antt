-- `sheet::label` meets its contract. Assumes nothing.
use Rattle.std.proofs.Common.{sym, ◌∙◌, arith}
use Rattle.sheet.proofs.LabelPlace.{found_within}
use Rattle.sheet.proofs.label.Goals as goal

pub slice_bounds-result-count : goal.slice_bounds-result-count
slice_bounds-result-count c = (found_within c.args.text.now c.args.position _ (sym c.label_found.ensures ∙ c.in_ok-place.was)).0

pub slice_bounds-result-start : goal.slice_bounds-result-start
slice_bounds-result-start c = omega (arith, found_within c.args.text.now c.args.position _ (sym c.label_found.ensures ∙ c.in_ok-place.was))

pub slice_bounds-result-end : goal.slice_bounds-result-end
slice_bounds-result-end c = omega (arith, found_within c.args.text.now c.args.position _ (sym c.label_found.ensures ∙ c.in_ok-place.was))
