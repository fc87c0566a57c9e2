-- `needs::outputs::OutputsLikeness::alike` meets its contract.
use Rattle.std.proofs.Common.{refl}
use Rattle.needs.proofs.Owning.{seen_apart}
use Rattle.needs.proofs.outputs.OutputsLikeness.alike.Goals as goal

pub returns-then-output : goal.returns-then-output
returns-then-output c = let o = c.args.self.now in seen_apart o.own.list _ o.table.now o.actions _ _ c.actions-test.true refl c.output.ensures.value c.output-in-actions.ensures.value c.if-output.true
