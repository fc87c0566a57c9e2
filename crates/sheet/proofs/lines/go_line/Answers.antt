-- `sheet::lines::go_line` meets its contract. Assumes nothing.
use Rattle.std.proofs.Common.{sym, ◌∙◌, le-ltb, lt-ltb, eq-eqb, ne_eqb}
use Rattle.std.proofs.lemmas.Result.{err_from_is_err_and}
use Rattle.sheet.specs.Records.{go_line}
use Rattle.sheet.proofs.lines.go_line.Goals as goal
use Rattle.sheet.proofs.lines.go_line.Goals.{else-numbers-state-via-then-numbers-state+then-numbers-action+else-numbers-states, else-numbers-state-via-then-numbers-state+else-numbers-action, else-numbers-state-via-else-numbers-state}

pub returns-in_err-numbers : goal.returns-in_err-numbers
unfolding go_line
returns-in_err-numbers c = let p = err_from_is_err_and c.from_residual.result c.from_residual.ensures.1 in rw (p.1, p.2) (rw (sym c.record_of.ensures ∙ c.in_err-numbers.was))

pub returns-then-numbers-states : goal.returns-then-numbers-states
unfolding go_line
returns-then-numbers-states c = simp (sym c.record_of.ensures ∙ c.in_ok-numbers.was, eq-eqb _ _ c.if-numbers-state.true, eq-eqb _ _ c.if-numbers-action.true, lt-ltb _ _ c.if-numbers-states.true)

pub returns-else-numbers-state : goal.returns-else-numbers-state
unfolding go_line
returns-else-numbers-state c = elim c.else-numbers-state.branch [
  | else-numbers-state-via-then-numbers-state+then-numbers-action+else-numbers-states w ↦ simp (sym c.record_of.ensures ∙ c.in_ok-numbers.was, eq-eqb _ _ w.if-numbers-state.true, eq-eqb _ _ w.if-numbers-action.true, le-ltb _ _ w.if-numbers-states.false)
  | else-numbers-state-via-then-numbers-state+else-numbers-action w ↦ simp (sym c.record_of.ensures ∙ c.in_ok-numbers.was, eq-eqb _ _ w.if-numbers-state.true, ne_eqb _ _ w.if-numbers-action.false)
  | else-numbers-state-via-else-numbers-state w ↦ simp (sym c.record_of.ensures ∙ c.in_ok-numbers.was, ne_eqb _ _ w.if-numbers-state.false)
]
