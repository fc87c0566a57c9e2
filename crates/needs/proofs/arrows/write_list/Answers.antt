-- `needs::arrows::write_list` meets its contract.
use Rattle.needs.proofs.Listing.{written_none}
use Rattle.needs.proofs.arrows.write_list.Goals as goal

pub sources-init : goal.sources-init
sources-init c = written_none _ _ c.requires.list_value
