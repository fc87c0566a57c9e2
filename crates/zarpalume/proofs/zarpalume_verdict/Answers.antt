-- `zarpalume::zarpalume_verdict` meets its contract. Assumes nothing.
use Rattle.std.proofs.Common.{◌≡◌, length}
use Rattle.std.specs.Prelude.{replicate}
use borrow.Author.Rules.{rules}
use borrow.Author.Tests.{ne_eqb}
use Rattle.zarpalume.proofs.Called.{call_good, call_bad, line_fits, model_said, boxes_most, refused_said}
use Rattle.zarpalume.proofs.zarpalume_verdict.Goals as goal

pub returns-then-misfits : goal.returns-then-misfits
returns-then-misfits c = call_bad _ c.args.verdict.now (ne_eqb _ _ c.if-misfits.true)

pub put_refusal-requires : goal.put_refusal-requires
put_refusal-requires c = (search rules, line_fits _ _ _ _ _ _ _ _ c.read.ensures (search rules) (search rules) (search rules) c.in-Err.is)

pub returns-in-Err : goal.returns-in-Err
returns-in-Err c = let z : c.fill.new.self ≡ replicate (length c.args.verdict.now) 0 = search rules in call_good _ _ _ _ c.if-misfits.false z c.put_refusal.ensures.0 (refused_said _ _ _ _ _ _ _ _ c.read.ensures (search rules) (search rules) (search rules) c.in-Err.is)

pub put_verdict-requires : goal.put_verdict-requires
put_verdict-requires c = (search rules, boxes_most _ _ _ _ _ _ _ _ c.read.ensures (search rules) (search rules) (search rules) c.in-Ok.is)

pub returns-in-Ok : goal.returns-in-Ok
returns-in-Ok c = let z : c.fill.new.self ≡ replicate (length c.args.verdict.now) 0 = search rules in call_good _ _ _ _ c.if-misfits.false z c.put_verdict.ensures.0 (model_said _ _ _ _ _ _ _ _ c.read.ensures (search rules) (search rules) (search rules) c.in-Ok.is)
