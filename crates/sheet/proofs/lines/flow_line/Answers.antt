-- `sheet::lines::flow_line` meets its contract. Assumes nothing.
use Rattle.std.proofs.Common.{sym, ◌∙◌}
use Rattle.std.proofs.lemmas.Result.{err_from_is_err_and}
use Rattle.sheet.specs.Records.{flow_line}
use Rattle.sheet.proofs.Taking.{pair_ok, pair_err}
use Rattle.sheet.proofs.lines.flow_line.Goals as goal

pub returns-in_err-v : goal.returns-in_err-v
unfolding flow_line
returns-in_err-v c = let p = err_from_is_err_and c.from_residual.result c.from_residual.ensures.1 in rw (p.1, p.2) (rw (sym c.starts.ensures ∙ c.if-starts.true) (sym (pair_err _ _ _ _ (sym c.arrow_line.ensures ∙ c.in_err-v.was))))

pub returns-in_err-v-2 : goal.returns-in_err-v-2
unfolding flow_line
returns-in_err-v-2 c = let p = err_from_is_err_and c.from_residual-in_err-v-2.result c.from_residual-in_err-v-2.ensures.1 in rw (p.1, p.2) (rw (sym c.starts.ensures ∙ c.if-starts.false, sym c.starts-else-starts.ensures ∙ c.if-starts-2.true) (sym (pair_err _ _ _ _ (sym c.arrow_line-then-starts-2.ensures ∙ c.in_err-v-2.was))))

pub returns-in_ok-v : goal.returns-in_ok-v
unfolding flow_line
returns-in_ok-v c = rw (sym c.starts.ensures ∙ c.if-starts.true) (sym (pair_ok _ _ _ _ (sym c.arrow_line.ensures ∙ c.in_ok-v.was)))

pub returns-in_ok-v-2 : goal.returns-in_ok-v-2
unfolding flow_line
returns-in_ok-v-2 c = rw (sym c.starts.ensures ∙ c.if-starts.false, sym c.starts-else-starts.ensures ∙ c.if-starts-2.true) (sym (pair_ok _ _ _ _ (sym c.arrow_line-then-starts-2.ensures ∙ c.in_ok-v-2.was)))

pub returns-else-starts-2 : goal.returns-else-starts-2
unfolding flow_line
returns-else-starts-2 c = rw (sym c.starts.ensures ∙ c.if-starts.false, sym c.starts-else-starts.ensures ∙ c.if-starts-2.false)
