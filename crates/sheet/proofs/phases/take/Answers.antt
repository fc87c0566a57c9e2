-- `sheet::phases::take` meets its contract. Assumes nothing.
use Rattle.std.proofs.Common.{sym, ◌∙◌, arith}
use Rattle.text.proofs.Parts.{end_within, line_found}
use Rattle.sheet.proofs.phases.take.Goals as goal

pub slice_bounds-read-end : goal.slice_bounds-read-end
slice_bounds-read-end g c =
    let p = line_found c.args.sheet.text.now c.args.cursor.at _ (sym c.line_from.ensures ∙ c.in-Some.is) in
    omega (arith, p, end_within c.args.sheet.text.now 10 c.args.cursor.at (omega (arith, p)))
