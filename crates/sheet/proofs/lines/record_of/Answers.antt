-- `sheet::lines::record_of` meets its contract. Assumes nothing.
use Rattle.std.proofs.Common.{sym, ◌∙◌}
use Rattle.sheet.specs.Numbers.{record_of}
use Rattle.sheet.proofs.Fields.{rest_after}
use Rattle.sheet.proofs.lines.record_of.Goals as goal

pub returns-then-starts : goal.returns-then-starts
unfolding record_of
returns-then-starts c = let s = sym c.starts.ensures ∙ c.if-starts.true in rw (← rest_after _ _ s) (simp s c.numbers_from.ensures)

pub returns-else-starts : goal.returns-else-starts
unfolding record_of
returns-else-starts c = simp (sym c.starts.ensures ∙ c.if-starts.false)
