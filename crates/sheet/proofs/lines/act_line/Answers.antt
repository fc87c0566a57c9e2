-- `sheet::lines::act_line` meets its contract. Assumes nothing.
use Rattle.std.proofs.Common.{sym, ◌∙◌}
use Rattle.std.proofs.lemmas.Result.{err_from_is_err_and}
use Rattle.sheet.specs.Records.{act_line}
use Rattle.sheet.proofs.Placed.{known_first}
use Rattle.sheet.proofs.lines.act_line.Goals as goal

pub returns-in_err-numbers : goal.returns-in_err-numbers
unfolding act_line
returns-in_err-numbers c = let p = err_from_is_err_and c.from_residual.result c.from_residual.ensures.1 in rw (p.1, p.2) (rw (sym c.record_of.ensures ∙ c.in_err-numbers.was))

pub returns : goal.returns
unfolding act_line
returns c = rw (sym c.record_of.ensures ∙ c.in_ok-numbers.was) (known_first _ _ c.position.ensures _ c.ok_or.ensures.value)
