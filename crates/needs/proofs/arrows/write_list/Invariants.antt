-- `needs::arrows::write_list` meets its contract. The loop's invariant: the arrows from the boxes passed stand on the list.
use Rattle.noninterference.specs.Rounds.{arrows_upto}
use Rattle.needs.specs.Marks.{wanted_in}
use Rattle.needs.specs.Listed.{Written}
use Rattle.needs.proofs.arrows.write_list.Given as goal

abbrev pub invariant-sources : goal.invariant-sources
invariant-sources l = Written l.list (arrows_upto (wanted_in l.table) l.boxes l.v) l.n
