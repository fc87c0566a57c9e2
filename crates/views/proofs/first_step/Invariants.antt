-- `views::first_step` meets its contract. Each loop's invariant: nothing is found yet, and the search that the loop makes
-- gives nothing below its number. Assumes nothing.
use mathlib.Core.Path.{◌≡◌}
use Rattle.laws.specs.Search.{Passed}
use Rattle.views.specs.Judgement.{accepted}
use Rattle.views.proofs.Searches.{step_at, step_from, step_under, step_of}
use Rattle.views.proofs.first_step.Given as goal

abbrev pub invariant-seconds : goal.invariant-seconds
invariant-seconds l = (l.found ≡ accepted) × Passed l.t (step_at l.sizes.states l.sizes.actions l.tables.model.now.machine.owners l.tables.next.now l.tables.views.now l.u l.a l.s)

abbrev pub invariant-firsts : goal.invariant-firsts
invariant-firsts l = (l.found ≡ accepted) × Passed l.s (step_from l.sizes.states l.sizes.actions l.tables.model.now.machine.owners l.tables.next.now l.tables.views.now l.u l.a)

abbrev pub invariant-actions : goal.invariant-actions
invariant-actions l = (l.found ≡ accepted) × Passed l.a (step_under l.sizes.states l.sizes.actions l.tables.model.now.machine.owners l.tables.next.now l.tables.views.now l.u)

abbrev pub invariant-boxes : goal.invariant-boxes
invariant-boxes l = (l.found ≡ accepted) × Passed l.u (step_of l.sizes.states l.sizes.actions l.tables.model.now.machine.owners l.tables.next.now l.tables.views.now)
