-- `views::first_output` meets its contract. Assumes nothing.
use mathlib.Core.Path.{refl, ◌∙◌}
use mathlib.Core.List.{[]}
use native.Mathlib.Omega.{arith}
use Rattle.noninterference.specs.Place.{output}
use Rattle.laws.proofs.Tests.{told}
use Rattle.laws.proofs.Search.{sweep, passed_more, first_of_none, first_of_hit, when_rest, when_no, when_hit, pair_hit, pairs_passed}
use Rattle.views.specs.Judgement.{answer}
use Rattle.views.proofs.Flags.{answer_none, answer_place}
use Rattle.views.proofs.Calm.{quiet_none}
use Rattle.views.proofs.Searches.{output_is}
use Rattle.views.proofs.first_output.Goals as goal

pub actions-preserved-then-silent : goal.actions-preserved-then-silent
actions-preserved-then-silent c =
    let k = c.args.tables.now in (
      c.actions.invariant.0,
      passed_more _ _ c.actions.invariant.1 (quiet_none _ k.good.machine k.lows c.actions-test.true
          c.owner-o.ensures (told _ _ c.silent.ensures c.if-silent.true)),
    )

pub seconds-init : goal.seconds-init
seconds-init c = search (sweep, pairs_passed)

pub seconds-preserved : goal.seconds-preserved
seconds-preserved c = (
  c.seconds.invariant.0,
  passed_more _ _ c.seconds.invariant.1 (when_rest _ (when_rest _ (when_no _ (told _ _ (rw
      c.owner-o.ensures at c.leaks.ensures) c.if-leaks.false)))),
)

pub firsts-preserved : goal.firsts-preserved
firsts-preserved c = search (sweep, when_rest)

pub actions-preserved : goal.actions-preserved
actions-preserved c = search sweep

pub returns-after-actions : goal.returns-after-actions
returns-after-actions c =
    let k = c.args.tables.now in
    c.actions.invariant.0 ∙ answer_none (output_is k.model.now.machine [] c.args.outputs.now k.views.now) (first_of_none _ _ c.actions-test.false c.actions.invariant.1)

pub returns-then-leaks : goal.returns-then-leaks
unfolding answer
returns-then-leaks c =
    let k = c.args.tables.now in
    answer_place (output _ _ _) (output_is k.model.now.machine [] c.args.outputs.now k.views.now) (first_of_hit _ _ _ _ c.actions-test.true
    c.actions.invariant.1 (first_of_hit _ _ _ _ c.firsts-test.true c.firsts.invariant.1 (when_hit _ _ refl (first_of_hit _ _ _ _
    c.seconds-test.true c.seconds.invariant.1 (pair_hit c.firsts.s c.seconds.t _ _ (omega (arith, c.seconds.auto.t)) (when_hit _ _ (told _ _ (rw c.owner-o.ensures at
    c.leaks.ensures) c.if-leaks.true) refl))))))
