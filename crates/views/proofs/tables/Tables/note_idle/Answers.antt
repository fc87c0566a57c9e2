-- `views::tables::Tables::note_idle` meets its contract. Assumes nothing.
use Rattle.views.proofs.Calm.{idle_keeps, kept_more}
use Rattle.views.proofs.tables.Tables.note_idle.Goals as goal

pub boxes-preserved : goal.boxes-preserved
boxes-preserved c = kept_more c.boxes.invariant c.boxes-test.true c.requires.action_in (idle_keeps _ _ c.requires.idle)
