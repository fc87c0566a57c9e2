-- `sheet::lines::arrow_line` meets its contract. Assumes nothing.
use Rattle.std.proofs.Common.{sym, ◌∙◌}
use Rattle.std.proofs.lemmas.Result.{err_from_is_err_and}
use Rattle.sheet.specs.Records.{arrow_line}
use Rattle.sheet.proofs.Placed.{known_ok, known_err}
use Rattle.sheet.proofs.lines.arrow_line.Goals as goal

pub returns-in_err-numbers : goal.returns-in_err-numbers
unfolding arrow_line
returns-in_err-numbers c = let p = err_from_is_err_and c.from_residual.result c.from_residual.ensures.1 in rw (p.1, p.2) (rw (sym c.record_of.ensures ∙ c.in_err-numbers.was))

pub returns-in_err-v : goal.returns-in_err-v
unfolding arrow_line
returns-in_err-v c =
    let p = err_from_is_err_and c.from_residual-in_err-v.result c.from_residual-in_err-v.ensures.1 in
    let v = known_err _ _ _ c.position.ensures c.ok_or.ensures.value _ c.in_err-v.was in
    rw (p.1, p.2, v.1) (rw (sym c.record_of.ensures ∙ c.in_ok-numbers.was, v.0))

pub returns-in_err-u : goal.returns-in_err-u
unfolding arrow_line
returns-in_err-u c =
    let p = err_from_is_err_and c.from_residual-in_err-u.result c.from_residual-in_err-u.ensures.1 in
    let v = known_ok _ _ _ c.position.ensures c.ok_or.ensures.value _ c.in_ok-v.was in
    let u = known_err _ _ _ c.position-2.ensures c.ok_or-2.ensures.value _ c.in_err-u.was in
    rw (p.1, p.2, u.1) (rw (sym c.record_of.ensures ∙ c.in_ok-numbers.was, v.0, u.0))

pub returns : goal.returns
unfolding arrow_line
returns c =
    let v = known_ok _ _ _ c.position.ensures c.ok_or.ensures.value _ c.in_ok-v.was in
    let u = known_ok _ _ _ c.position-2.ensures c.ok_or-2.ensures.value _ c.in_ok-u.was in
    rw (sym c.record_of.ensures ∙ c.in_ok-numbers.was, v.0, u.0, v.1, u.1)
