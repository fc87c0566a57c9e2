-- `sheet::phases::read_views` meets its contract. Assumes nothing.
use Rattle.std.proofs.Common.{refl, sym, ◌∙◌, arith, length-set}
use native.Mathlib.Nat.{mul-le-mul}
use Rattle.std.proofs.lemmas.Result.{err_from_is_err_and}
use Rattle.sheet.specs.Numbers.{class_kept}
use Rattle.sheet.proofs.Going.{start, over, stopped, took, said}
use Rattle.sheet.proofs.Good.{view_good}
use Rattle.sheet.proofs.phases.read_views.Goals as goal
use Rattle.sheet.proofs.phases.read_views.Invariants.{due, kept}

pub overflow_mul-total : goal.overflow_mul-total
overflow_mul-total c = omega (arith, mul-le-mul c.args.ids.few c.requires.states.1)

pub loop-k-init : goal.loop-k-init
loop-k-init c = record { same_length = refl; going = start (due c.args.ids.ids.now _) kept _ _ _ _ _ c.args.sheet.ended c.args.first.few }

pub returns-in_err-taken : goal.returns-in_err-taken
returns-in_err-taken c = let p = err_from_is_err_and c.from_residual.result c.from_residual.ensures.1 in rw (p.1, p.2) (stopped c.loop-k.invariant.going (omega arith) class_kept _ (sym c.take_view.ensures ∙ c.in_err-taken.was))

pub overflow_cast-views : goal.overflow_cast-views
overflow_cast-views c = let k = said c.loop-k.invariant.going (omega arith) class_kept (sym c.take_view.ensures ∙ c.in_ok-taken.was) in omega (arith, view_good _ _ _ k.is, k.read_is)

pub invariant_of-cursor : goal.invariant_of-cursor
invariant_of-cursor c = record { few = c.loop-k.invariant.going.few }

pub loop-k-preserved : goal.loop-k-preserved
loop-k-preserved c = record {
  same_length = simp length-set c.loop-k.invariant.same_length;
  going = took c.loop-k.invariant.going (omega arith) class_kept (sym c.take_view.ensures ∙ c.in_ok-taken.was) (λ a b c d r. rw r);
}

pub returns : goal.returns
returns c = over c.loop-k.invariant.going (omega arith)
