-- `sheet::lines::view_line` meets its contract. Assumes nothing.
use Rattle.std.proofs.Common.{sym, ◌∙◌, eq-eqb, ne_eqb}
use Rattle.std.proofs.lemmas.Result.{err_from_is_err_and}
use Rattle.sheet.specs.Records.{view_line}
use Rattle.sheet.proofs.lines.view_line.Goals as goal

pub returns-in_err-numbers : goal.returns-in_err-numbers
unfolding view_line
returns-in_err-numbers c = let p = err_from_is_err_and c.from_residual.result c.from_residual.ensures.1 in rw (p.1, p.2) (rw (sym c.record_of.ensures ∙ c.in_err-numbers.was))

pub returns-then-numbers-id : goal.returns-then-numbers-id
unfolding view_line
returns-then-numbers-id c = simp (sym c.record_of.ensures ∙ c.in_ok-numbers.was, ne_eqb _ _ c.if-numbers-id.true)

pub returns-then-numbers-state : goal.returns-then-numbers-state
unfolding view_line
returns-then-numbers-state c = simp (sym c.record_of.ensures ∙ c.in_ok-numbers.was, eq-eqb _ _ c.if-numbers-id.false, ne_eqb _ _ c.if-numbers-state.true)

pub returns-else-numbers-state : goal.returns-else-numbers-state
unfolding view_line
returns-else-numbers-state c = simp (sym c.record_of.ensures ∙ c.in_ok-numbers.was, eq-eqb _ _ c.if-numbers-id.false, eq-eqb _ _ c.if-numbers-state.false)
