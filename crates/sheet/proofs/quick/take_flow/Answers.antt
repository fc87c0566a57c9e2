-- `sheet::quick::take_flow` meets its contract. Assumes nothing.
use Rattle.std.proofs.Common.{rules}
use Rattle.sheet.specs.Records.{flow_line}
use Rattle.sheet.proofs.Taking.{taken_is}
use Rattle.sheet.proofs.quick.take_flow.Goals as goal

pub returns : goal.returns
returns c = taken_is (flow_line _) _ _ _ (λ l x k. search rules) c.take.ensures
