-- `sheet::phases::read_goes` meets its contract. Assumes nothing.
use Rattle.std.proofs.Common.{ℕ, ap, refl, sym, ◌∙◌, arith, length-set}
use native.Mathlib.Nat.{mul-le-mul}
use Rattle.std.proofs.lemmas.Result.{err_from_is_err_and}
use Rattle.sheet.specs.Numbers.{step_kept}
use Rattle.sheet.proofs.Going.{start, over, stopped, took, said}
use Rattle.sheet.proofs.Good.{go_good}
use Rattle.sheet.proofs.phases.read_goes.Goals as goal
use Rattle.sheet.proofs.phases.read_goes.Invariants.{due, kept}

pub overflow_mul-total : goal.overflow_mul-total
overflow_mul-total c = omega (arith, mul-le-mul c.requires.sizes.states_most c.requires.sizes.actions_most)

pub loop-k-init : goal.loop-k-init
loop-k-init c = record { next_length = refl; outputs_length = refl; going = start (due _ _) kept _ _ _ _ _ c.args.sheet.ended c.args.first.few }

pub returns-in_err-taken : goal.returns-in_err-taken
returns-in_err-taken c = let p = err_from_is_err_and c.from_residual.result c.from_residual.ensures.1 in rw (p.1, p.2) (stopped c.loop-k.invariant.going (omega arith) step_kept _ (sym c.take_go.ensures ∙ c.in_err-taken.was))

pub overflow_cast-next : goal.overflow_cast-next
overflow_cast-next c = let k = said c.loop-k.invariant.going (omega arith) step_kept (sym c.take_go.ensures ∙ c.in_ok-taken.was) in omega (arith, go_good _ _ _ _ k.is, ap (λ (x : ℕ × ℕ). x.0) k.read_is, c.requires.sizes.states_most)

pub overflow_cast-outputs : goal.overflow_cast-outputs
overflow_cast-outputs c = let k = said c.loop-k.invariant.going (omega arith) step_kept (sym c.take_go.ensures ∙ c.in_ok-taken.was) in omega (arith, go_good _ _ _ _ k.is, ap (λ (x : ℕ × ℕ). x.1) k.read_is)

pub invariant_of-cursor : goal.invariant_of-cursor
invariant_of-cursor c = record { few = c.loop-k.invariant.going.few }

pub loop-k-preserved : goal.loop-k-preserved
loop-k-preserved c = record {
  next_length = simp length-set c.loop-k.invariant.next_length;
  outputs_length = simp length-set c.loop-k.invariant.outputs_length;
  going = took c.loop-k.invariant.going (omega arith) step_kept (sym c.take_go.ensures ∙ c.in_ok-taken.was) (λ a b c d r. rw r);
}

pub returns : goal.returns
returns c = over c.loop-k.invariant.going (omega arith)
