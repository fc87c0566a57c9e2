-- `views::first_respect` meets its contract. Each loop's invariant: nothing is found yet, and the search that the loop makes
-- gives nothing below its number; what is noted holds. Assumes nothing.
use mathlib.Core.Path.{◌≡◌}
use Rattle.laws.specs.Search.{Passed}
use Rattle.views.specs.Judgement.{accepted}
use Rattle.views.specs.Guards.{Kept}
use Rattle.views.proofs.Searches.{respect_at, respect_from, respect_of}
use Rattle.views.proofs.first_respect.Given as goal

abbrev pub invariant-states : goal.invariant-states
invariant-states l = (l.found ≡ accepted) × Passed l.s (respect_at l.sizes.states l.sizes.actions l.tables.model.now.machine.owners l.tables.model.now.arrows l.tables.next.now l.tables.views.now l.u l.a)

abbrev pub invariant-actions : goal.invariant-actions
invariant-actions l = record {
  found : l.found ≡ accepted;
  passed : Passed l.a (respect_from l.sizes.states l.sizes.actions l.tables.model.now.machine.owners l.tables.model.now.arrows l.tables.next.now l.tables.views.now l.u);
  kept : Kept l.sizes.states l.sizes.actions l.tables.next.now l.tables.low.now l.kept;
}

abbrev pub invariant-boxes : goal.invariant-boxes
invariant-boxes l = record {
  found : l.found ≡ accepted;
  passed : Passed l.u (respect_of l.sizes.states l.sizes.actions l.tables.model.now.machine.owners l.tables.model.now.arrows l.tables.next.now l.tables.views.now);
  kept : Kept l.sizes.states l.sizes.actions l.tables.next.now l.tables.low.now l.kept;
}
