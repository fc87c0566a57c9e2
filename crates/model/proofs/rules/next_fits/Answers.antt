-- `model::rules::next_fits` meets its contract.
use Rattle.model.proofs.HighestEntry.{rows_test}
use Rattle.model.specs.Refused.{next_fits}
use Rattle.model.proofs.rules.next_fits.Goals as goal

pub returns-then-n-next : goal.returns-then-n-next
unfolding next_fits
returns-then-n-next c = rows_test _ c.highest.ensures c.requires.2 c.from.ensures
