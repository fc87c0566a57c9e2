-- `views::first_respect` meets its contract. Assumes nothing.
use mathlib.Core.Path.{refl, sym, ◌∙◌}
use mathlib.Core.List.{[]}
use Rattle.noninterference.specs.Place.{respect}
use Rattle.laws.proofs.Tests.{told, not_yes, not_no}
use Rattle.laws.proofs.Search.{passed_more, first_of_none, first_of_hit, when_rest, when_no, when_hit}
use Rattle.views.specs.Judgement.{answer}
use Rattle.views.proofs.Calm.{keeps_still}
use Rattle.views.proofs.Flags.{answer_none, answer_place}
use Rattle.views.proofs.Searches.{respect_is}
use Rattle.views.proofs.first_respect.Goals as goal

pub actions-preserved-then-arrow : goal.actions-preserved-then-arrow
actions-preserved-then-arrow c = record {
  found = c.actions.invariant.found;
  passed = passed_more _ _ c.actions.invariant.passed (when_no _ (sym (not_yes (told _ _ (rw c.owner-o.ensures at
      c.arrow.ensures) c.if-arrow.true))));
  kept = c.actions.invariant.kept;
}

pub actions-preserved-then-note_kept : goal.actions-preserved-then-note_kept
actions-preserved-then-note_kept c =
    let k = c.args.tables.now in record {
      found = c.actions.invariant.found;
      passed = passed_more _ _ c.actions.invariant.passed (keeps_still k.good k.lows k.model.now.machine.owners k.model.now.arrows c.boxes-test.true c.actions-test.true
          (c.note_kept.ensures.keeps c.if-note_kept.true));
      kept = c.note_kept.ensures.still_kept;
    }

pub states-preserved : goal.states-preserved
states-preserved c =
    (c.states.invariant.0, passed_more _ _ c.states.invariant.1 (when_rest _ (when_no _ (told _ _ c.moves.ensures c.if-moves.false))))

pub actions-preserved : goal.actions-preserved
actions-preserved c = record {
  found = c.states.invariant.0;
  passed = passed_more _ _ c.actions.invariant.passed (when_rest _ (first_of_none _ _ c.states-test.false c.states.invariant.1));
  kept = c.note_kept.ensures.still_kept;
}

pub boxes-preserved : goal.boxes-preserved
boxes-preserved c = record {
  found = c.actions.invariant.found;
  passed = passed_more _ _ c.boxes.invariant.passed (first_of_none _ _ c.actions-test.false c.actions.invariant.passed);
  kept = c.actions.invariant.kept;
}

pub returns-after-boxes-clause-first : goal.returns-after-boxes-clause-first
returns-after-boxes-clause-first c =
    let k = c.args.tables.now in
    c.boxes.invariant.found ∙ answer_none (respect_is k.model.now.machine k.model.now.arrows k.next.now [] k.views.now) (first_of_none _ _ c.boxes-test.false c.boxes.invariant.passed)

pub returns-then-moves-clause-first : goal.returns-then-moves-clause-first
unfolding answer
returns-then-moves-clause-first c =
    let k = c.args.tables.now in
    answer_place (respect _ _ _) (respect_is k.model.now.machine k.model.now.arrows k.next.now [] k.views.now) (first_of_hit _ _ _ _ c.boxes-test.true
    c.boxes.invariant.passed (first_of_hit _ _ _ _ c.actions-test.true c.actions.invariant.passed (when_hit _ _ (sym (not_no (told _ _
    (rw c.owner-o.ensures at c.arrow.ensures) c.if-arrow.false))) (first_of_hit _ _ _ _ c.states-test.true
    c.states.invariant.1 (when_hit _ _ refl (when_hit _ _ (told _ _ c.moves.ensures c.if-moves.true) refl))))))
