-- `needs::rounds::kept` meets its contract.
use Rattle.needs.proofs.Moving.{kept_known, kept_old}
use Rattle.needs.proofs.rounds.kept.Goals as goal

pub returns-then-number-lt-STATES : goal.returns-then-number-lt-STATES
returns-then-number-lt-STATES c = kept_known _ _ c.from-number.ensures c.if-number-lt-STATES.true

pub returns-else-number-lt-STATES : goal.returns-else-number-lt-STATES
returns-else-number-lt-STATES c = kept_old _ _ c.from-number.ensures c.if-number-lt-STATES.false
