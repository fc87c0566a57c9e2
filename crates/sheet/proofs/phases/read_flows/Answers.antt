-- `sheet::phases::read_flows` meets its contract. Assumes nothing.
use Rattle.std.proofs.Common.{sym, ◌∙◌, arith}
use Rattle.std.proofs.lemmas.Result.{err_from_is_err_and}
use Rattle.sheet.proofs.ArrowLines.{over, arrow_other, arrow_bad, arrow_one, arrow_two, one_known, two_known}
use Rattle.sheet.proofs.phases.read_flows.Goals as goal
use Rattle.sheet.proofs.phases.read_flows.Goals.{in-One, in-Two}

pub returns-in_err-taken : goal.returns-in_err-taken
returns-in_err-taken c = let p = err_from_is_err_and c.from_residual.result c.from_residual.ensures.1 in rw (p.1, p.2) (arrow_bad c.loop-cursor.invariant (omega arith) _ (sym c.take_flow.ensures ∙ c.in_err-taken.was))

pub returns-in_default : goal.returns-in_default
returns-in_default c = arrow_other c.loop-cursor.invariant (omega arith) (sym c.take_flow.ensures ∙ c.in_ok-taken.was) c.in_default.is

pub draw-requires : goal.draw-requires
draw-requires c =
    let l = c.loop-cursor in
    let k = one_known l.invariant (omega arith) (sym c.take_flow.ensures ∙ c.in_ok-taken.was) c.in-Some.is _ _ c.in-One.is in
    record { boxes = (omega (arith, k, c.args.ids.few), omega (arith, k, c.args.ids.few)) }

pub draw-requires-in-Two : goal.draw-requires-in-Two
draw-requires-in-Two c =
    let l = c.loop-cursor in
    let k = two_known l.invariant (omega arith) (sym c.take_flow.ensures ∙ c.in_ok-taken.was) c.in-Some.is _ _ c.in-Two.is in
    record { boxes = (omega (arith, k, c.args.ids.few), omega (arith, k, c.args.ids.few)) }

pub draw-requires-in-Two-2 : goal.draw-requires-in-Two-2
draw-requires-in-Two-2 c =
    let l = c.loop-cursor in
    let k = two_known l.invariant (omega arith) (sym c.take_flow.ensures ∙ c.in_ok-taken.was) c.in-Some.is _ _ c.in-Two.is in
    record { boxes = (omega (arith, k, c.args.ids.few), omega (arith, k, c.args.ids.few)) }

pub loop-cursor-preserved : goal.loop-cursor-preserved
loop-cursor-preserved c = elim c.match-arrow.branch [
  | in-One w ↦ rw w.arrows-is (rw w.draw.ensures (arrow_one c.loop-cursor.invariant (omega arith) (sym c.take_flow.ensures ∙ c.in_ok-taken.was) c.in-Some.is _ _ w.in-One.is))
  | in-Two w ↦ rw w.arrows-is (rw (w.draw-in-Two-2.ensures, w.draw-in-Two.ensures) (arrow_two c.loop-cursor.invariant (omega arith) (sym c.take_flow.ensures ∙ c.in_ok-taken.was) c.in-Some.is _ _ w.in-Two.is))
]

pub returns : goal.returns
returns c = over c.loop-cursor.invariant (omega arith)
