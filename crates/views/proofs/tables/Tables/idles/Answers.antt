-- `views::tables::Tables::idles` meets its contract. Assumes nothing.
use Rattle.views.proofs.Calm.{kept_none}
use Rattle.views.proofs.tables.Tables.idles.Goals as goal

pub actions-init : goal.actions-init
actions-init c = kept_none _ _ _ _

pub note_idle-requires-clause-idle : goal.note_idle-requires-clause-idle
note_idle-requires-clause-idle c = c.is_idle.ensures c.if-is_idle.true
