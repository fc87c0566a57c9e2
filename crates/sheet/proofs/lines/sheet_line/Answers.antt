-- `sheet::lines::sheet_line` meets its contract. Assumes nothing.
use Rattle.std.proofs.Common.{sym, ◌∙◌, le-ltb, lt-ltb}
use Rattle.std.proofs.lemmas.Result.{err_from_is_err_and}
use Rattle.sheet.specs.Records.{sheet_line}
use Rattle.sheet.proofs.lines.sheet_line.Goals as goal
use Rattle.sheet.proofs.lines.sheet_line.Goals.{else-sized-via-then-sized+then-sized-2+else-sized-3, else-sized-via-then-sized+else-sized-2, else-sized-via-else-sized}

pub returns-in_err-numbers : goal.returns-in_err-numbers
unfolding sheet_line
returns-in_err-numbers c = let p = err_from_is_err_and c.from_residual.result c.from_residual.ensures.1 in rw (p.1, p.2) (rw (sym c.record_of.ensures ∙ c.in_err-numbers.was))

pub returns-then-numbers : goal.returns-then-numbers
unfolding sheet_line
returns-then-numbers c = rw (c.new.ensures, sym c.record_of.ensures ∙ c.in_ok-numbers.was, sym c.sized.ensures ∙ c.if-sized.true, sym c.sized-then-sized.ensures ∙ c.if-sized-2.true, sym c.sized-then-sized-2.ensures ∙ c.if-sized-3.true, lt-ltb _ _ c.if-numbers.true)

pub returns-else-numbers : goal.returns-else-numbers
unfolding sheet_line
returns-else-numbers c = rw (sym c.record_of.ensures ∙ c.in_ok-numbers.was, sym c.sized.ensures ∙ c.if-sized.true, sym c.sized-then-sized.ensures ∙ c.if-sized-2.true, sym c.sized-then-sized-2.ensures ∙ c.if-sized-3.true, le-ltb _ _ c.if-numbers.false)

pub returns-else-sized : goal.returns-else-sized
unfolding sheet_line
returns-else-sized c = elim c.else-sized.branch [
  | else-sized-via-then-sized+then-sized-2+else-sized-3 w ↦ rw (sym c.record_of.ensures ∙ c.in_ok-numbers.was, sym c.sized.ensures ∙ w.if-sized.true, sym w.sized-then-sized.ensures ∙ w.if-sized-2.true, sym w.sized-then-sized-2.ensures ∙ w.if-sized-3.false)
  | else-sized-via-then-sized+else-sized-2 w ↦ rw (sym c.record_of.ensures ∙ c.in_ok-numbers.was, sym c.sized.ensures ∙ w.if-sized.true, sym w.sized-then-sized.ensures ∙ w.if-sized-2.false)
  | else-sized-via-else-sized w ↦ rw (sym c.record_of.ensures ∙ c.in_ok-numbers.was, sym c.sized.ensures ∙ w.if-sized.false)
]
