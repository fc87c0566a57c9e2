-- `needs::outputs::OutputsLikeness::alike` meets its contract. The loop's invariant: no action passed has another output.
use Rattle.laws.specs.Range.{Held}
use Rattle.needs.specs.Laws.{SameBy}
use Rattle.needs.proofs.outputs.OutputsLikeness.alike.Given as goal

abbrev pub invariant-actions : goal.invariant-actions
invariant-actions l = Held l.i (SameBy l.self.own.list l.self.own.count l.self.table.now l.self.actions l.t l.s)
