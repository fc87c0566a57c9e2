-- `views::first_step` meets its contract. Assumes nothing.
use mathlib.Core.Path.{refl, ◌∙◌}
use mathlib.Core.List.{[]}
use native.Mathlib.Omega.{arith}
use Rattle.noninterference.specs.Place.{step}
use Rattle.laws.proofs.Tests.{told}
use Rattle.laws.proofs.Search.{sweep, passed_more, first_of_none, first_of_hit, when_rest, when_no, when_hit, pair_hit, pairs_passed}
use Rattle.views.specs.Judgement.{answer}
use Rattle.views.proofs.Flags.{answer_none, answer_place}
use Rattle.views.proofs.Calm.{alone_none, calm_none}
use Rattle.views.proofs.Searches.{step_is}
use Rattle.views.proofs.first_step.Goals as goal

pub boxes-preserved-then-alones-u : goal.boxes-preserved-then-alones-u
boxes-preserved-then-alones-u c =
    let k = c.args.tables.now in
    (c.boxes.invariant.0, passed_more _ _ c.boxes.invariant.1 (alone_none k.good k.lows c.boxes-test.true (c.requires.alones.alone _ c.if-alones-u.true)))

pub actions-preserved-then-settled : goal.actions-preserved-then-settled
actions-preserved-then-settled c =
    let k = c.args.tables.now in (
      c.actions.invariant.0,
      passed_more _ _ c.actions.invariant.1 (calm_none k.good k.lows c.boxes-test.true c.actions-test.true c.owner-o.ensures
          (c.settled.ensures c.if-settled.true)),
    )

pub seconds-init : goal.seconds-init
seconds-init c = search (sweep, pairs_passed)

pub seconds-preserved : goal.seconds-preserved
seconds-preserved c = (
  c.seconds.invariant.0,
  passed_more _ _ c.seconds.invariant.1 (when_rest _ (when_rest _ (when_no _ (told _ _ (rw
      c.owner-o.ensures at c.tears.ensures) c.if-tears.false)))),
)

pub firsts-preserved : goal.firsts-preserved
firsts-preserved c = search (sweep, when_rest)

pub actions-preserved : goal.actions-preserved
actions-preserved c = search sweep

pub boxes-preserved : goal.boxes-preserved
boxes-preserved c = search sweep

pub returns-after-boxes : goal.returns-after-boxes
returns-after-boxes c =
    let k = c.args.tables.now in
    c.boxes.invariant.0 ∙ answer_none (step_is k.model.now.machine k.next.now [] k.views.now) (first_of_none _ _ c.boxes-test.false c.boxes.invariant.1)

pub returns-then-tears : goal.returns-then-tears
unfolding answer
returns-then-tears c =
    let k = c.args.tables.now in
    answer_place (step _ _ _ _) (step_is k.model.now.machine k.next.now [] k.views.now) (first_of_hit _ _ _ _ c.boxes-test.true c.boxes.invariant.1
    (first_of_hit _ _ _ _ c.actions-test.true c.actions.invariant.1 (first_of_hit _ _ _ _ c.firsts-test.true c.firsts.invariant.1
    (when_hit _ _ refl (first_of_hit _ _ _ _ c.seconds-test.true c.seconds.invariant.1 (pair_hit c.firsts.s c.seconds.t _ _ (omega (arith, c.seconds.auto.t)) (when_hit _ _
    (told _ _ (rw c.owner-o.ensures at c.tears.ensures) c.if-tears.true) refl)))))))
