-- `needs::refine` meets its contract.
use Rattle.std.proofs.Common.{sym, ◌∙◌, arith}
use Rattle.needs.proofs.Agreeing.{led_below}
use Rattle.needs.proofs.Owning.{led_own}
use Rattle.needs.proofs.Refining.{refining_first, refining_one, refining_most, refining_more, refining_last}
use Rattle.needs.proofs.refine.Goals as goal

pub returns-then-one_class : goal.returns-then-one_class
returns-then-one_class c = refining_one {inside = c.args.inside.now} (refining_first c.args.tables.now.fitting c.requires.known c.requires.befores (led_own _ c.own_actions-own.ensures c.first_round-numbers.ensures)) (sym c.one_class.ensures ∙ c.if-one_class.true)

pub rounds-init : goal.rounds-init
rounds-init c = refining_first c.args.tables.now.fitting c.requires.known c.requires.befores (led_own _ c.own_actions-own.ensures c.first_round-numbers.ensures)

pub returns-then-outcome : goal.returns-then-outcome
returns-then-outcome c = refining_last c.rounds.invariant c.round-outcome.ensures.led (sym c.round-outcome.ensures.same ∙ c.if-outcome.true)

pub again-marks-requires-clause-below : goal.again-marks-requires-clause-below
again-marks-requires-clause-below c = led_below _ _ c.round-outcome.ensures.led

pub overflow_add-rounds : goal.overflow_add-rounds
overflow_add-rounds c = let i = c.rounds.invariant in omega (arith, refining_most i, i.fits.good.machine.sizes.states_most)

pub rounds-smaller : goal.rounds-smaller
rounds-smaller c = omega (arith, refining_most c.rounds.invariant)

pub rounds-preserved : goal.rounds-preserved
rounds-preserved c = refining_more c.rounds.invariant c.round-outcome.ensures.led (sym c.round-outcome.ensures.same ∙ c.if-outcome.false) c.again-marks.ensures
