-- `sheet::phases::read_boxes` meets its contract. Assumes nothing.
use Rattle.std.proofs.Common.{take, rules, ◌-◌, refl, sym, ◌∙◌, arith, length-set}
use native.Mathlib.Nat.{sub-zero}
use Rattle.std.proofs.lemmas.Result.{err_from_is_err_and}
use Rattle.sheet.specs.Numbers.{as_first, first_kept}
use Rattle.sheet.specs.Records.{box_line}
use Rattle.sheet.proofs.Taking.{taken_is}
use Rattle.sheet.proofs.Going.{start, over, stopped, took}
use Rattle.sheet.proofs.phases.read_boxes.Goals as goal
use Rattle.sheet.proofs.phases.read_boxes.Invariants.{due, kept}

pub loop-k-init : goal.loop-k-init
loop-k-init c = record { room = refl; going = start due kept _ _ _ _ _ c.args.sheet.ended c.args.first.few }

pub returns-in_err-taken : goal.returns-in_err-taken
returns-in_err-taken c = let p = err_from_is_err_and c.from_residual.result c.from_residual.ensures.1 in rw (p.1, p.2) (stopped c.loop-k.invariant.going (omega arith) first_kept _ (rw sub-zero at (sym (taken_is (λ l. as_first (box_line (take (c.loop-k.k - 0) c.loop-k.ids) l)) _ _ _ (λ l x k. search rules) c.take.ensures) ∙ c.in_err-taken.was)))

pub invariant_of-cursor : goal.invariant_of-cursor
invariant_of-cursor c = record { few = c.loop-k.invariant.going.few }

pub loop-k-preserved : goal.loop-k-preserved
loop-k-preserved c = record { room = simp length-set c.loop-k.invariant.room; going = took c.loop-k.invariant.going (omega arith) first_kept (rw sub-zero at (sym (taken_is (λ l. as_first (box_line (take (c.loop-k.k - 0) c.loop-k.ids) l)) _ _ _ (λ l x k. search rules) c.take.ensures) ∙ c.in_ok-taken.was)) (λ a b c d r. rw r) }

pub returns : goal.returns
returns c = over c.loop-k.invariant.going (omega arith)
