-- `views::first_output` meets its contract. Each loop's invariant: nothing is found yet, and the search that the loop makes
-- gives nothing below its number. Assumes nothing.
use mathlib.Core.Path.{◌≡◌}
use Rattle.laws.specs.Search.{Passed}
use Rattle.views.specs.Judgement.{accepted}
use Rattle.views.proofs.Searches.{output_at, output_from, output_of}
use Rattle.views.proofs.first_output.Given as goal

abbrev pub invariant-seconds : goal.invariant-seconds
invariant-seconds l = (l.found ≡ accepted) × Passed l.t (output_at l.sizes.states l.sizes.actions l.tables.model.now.machine.owners l.outputs l.tables.views.now l.a l.s)

abbrev pub invariant-firsts : goal.invariant-firsts
invariant-firsts l = (l.found ≡ accepted) × Passed l.s (output_from l.sizes.states l.sizes.actions l.tables.model.now.machine.owners l.outputs l.tables.views.now l.a)

abbrev pub invariant-actions : goal.invariant-actions
invariant-actions l = (l.found ≡ accepted) × Passed l.a (output_of l.sizes.states l.sizes.actions l.tables.model.now.machine.owners l.outputs l.tables.views.now)
