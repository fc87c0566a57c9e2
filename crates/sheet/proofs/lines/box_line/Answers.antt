-- `sheet::box_line` meets its contract. Assumes nothing.
use mathlib.Core.Path.{sym, ◌∙◌}
use Rattle.sheet.specs.Words as words
use Rattle.sheet.specs.Records.{box_line}
use Rattle.sheet.proofs.Fields.{rest_after}
use Rattle.sheet.proofs.lines.box_line.Goals as goal

pub returns-then-starts : goal.returns-then-starts
unfolding box_line
returns-then-starts c = let s = sym c.starts.ensures ∙ c.if-starts.true in rw (← rest_after _ words.box s) (rw s c.box_from.ensures)

pub returns-else-starts : goal.returns-else-starts
unfolding box_line
returns-else-starts c = rw (sym c.starts.ensures ∙ c.if-starts.false)
