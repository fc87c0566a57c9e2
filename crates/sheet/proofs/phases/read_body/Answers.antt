-- `sheet::phases::read_body` meets its contract. Assumes nothing.
use native.Mathlib.Nat.{sub-zero}
use Rattle.std.proofs.lemmas.Result.{err_from_is_err_and}
use Rattle.text.proofs.Parts.{line_next, no_lines}
use Rattle.sheet.specs.Reading.{parts, drawing}
use Rattle.sheet.proofs.phases.read_body.Goals as goal

pub returns-in_err-boxes : goal.returns-in_err-boxes
unfolding parts drawing
returns-in_err-boxes c = let p = err_from_is_err_and c.from_residual.result c.from_residual.ensures.1 in rw (p.1, p.2, ← c.read_boxes.ensures, c.in_err-boxes.was)

pub returns-in_err-acts : goal.returns-in_err-acts
unfolding parts drawing
returns-in_err-acts c = let p = err_from_is_err_and c.from_residual-in_err-acts.result c.from_residual-in_err-acts.ensures.1 in rw (p.1, p.2, ← c.read_boxes.ensures, c.in_ok-boxes.was, ← sub-zero c.args.sizes.boxes, ← c.read_acts.ensures, c.in_err-acts.was)

pub returns-in_err-gone : goal.returns-in_err-gone
unfolding parts drawing
returns-in_err-gone c = let p = err_from_is_err_and c.from_residual-in_err-gone.result c.from_residual-in_err-gone.ensures.1 in rw (p.1, p.2, ← c.read_boxes.ensures, c.in_ok-boxes.was, ← sub-zero c.args.sizes.boxes, ← c.read_acts.ensures, c.in_ok-acts.was, ← c.read_goes.ensures, c.in_err-gone.was)

pub returns-in_err-flows : goal.returns-in_err-flows
unfolding parts drawing
returns-in_err-flows c = let p = err_from_is_err_and c.from_residual-in_err-flows.result c.from_residual-in_err-flows.ensures.1 in rw (p.1, p.2, ← c.read_boxes.ensures, c.in_ok-boxes.was, ← sub-zero c.args.sizes.boxes, ← c.read_acts.ensures, c.in_ok-acts.was, ← c.read_goes.ensures, c.in_ok-gone.was, ← c.read_flows.ensures, c.in_err-flows.was)

pub returns-in_err-last : goal.returns-in_err-last
unfolding parts drawing
returns-in_err-last c = let p = err_from_is_err_and c.from_residual-in_err-last.result c.from_residual-in_err-last.ensures.1 in rw (p.1, p.2, ← c.read_boxes.ensures, c.in_ok-boxes.was, ← sub-zero c.args.sizes.boxes, ← c.read_acts.ensures, c.in_ok-acts.was, ← c.read_goes.ensures, c.in_ok-gone.was, ← c.read_flows.ensures, c.in_ok-flows.was, ← c.read_views.ensures, c.in_err-last.was)

pub returns-then-last-sheet : goal.returns-then-last-sheet
unfolding parts drawing
returns-then-last-sheet c = rw (← c.read_boxes.ensures, c.in_ok-boxes.was, ← sub-zero c.args.sizes.boxes, ← c.read_acts.ensures, c.in_ok-acts.was, ← c.read_goes.ensures, c.in_ok-gone.was, ← c.read_flows.ensures, c.in_ok-flows.was, ← c.read_views.ensures, c.in_ok-last.was, line_next c.args.sheet.ended _ c.if-last-sheet.true)

pub returns-else-last-sheet : goal.returns-else-last-sheet
unfolding parts drawing
returns-else-last-sheet c = rw (c.new-else-last-sheet.ensures, c.new.ensures, ← c.read_boxes.ensures, c.in_ok-boxes.was, ← sub-zero c.args.sizes.boxes, ← c.read_acts.ensures, c.in_ok-acts.was, ← c.read_goes.ensures, c.in_ok-gone.was, ← c.read_flows.ensures, c.in_ok-flows.was, ← c.read_views.ensures, c.in_ok-last.was, no_lines c.args.sheet.text.now _ c.if-last-sheet.false)
