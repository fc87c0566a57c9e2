-- `needs::outputs::OutputsLikeness::slot` meets its contract. The loop's invariant: it is the small number of the outputs passed.
use Rattle.std.specs.Prelude.{◌≡◌, ℕ}
use Rattle.needs.specs.Tables.{entry}
use Rattle.needs.specs.Starts.{slot_of}
use Rattle.needs.specs.Own.{output_in}
use Rattle.needs.proofs.outputs.OutputsLikeness.slot.Given as goal

abbrev pub invariant-actions : goal.invariant-actions
invariant-actions l = l.slot ≡ slot_of l.i (λ (i : ℕ). output_in l.self.actions l.self.table.now l.s (entry l.self.own.list i))
