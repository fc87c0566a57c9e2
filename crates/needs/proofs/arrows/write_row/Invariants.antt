-- `needs::arrows::write_row` meets its contract. The loop's invariant: the arrows to the boxes passed stand on the list.
use Rattle.std.specs.Prelude.{◌++◌}
use Rattle.noninterference.specs.Rounds.{arrows_from, arrows_upto}
use Rattle.needs.specs.Marks.{wanted_in}
use Rattle.needs.specs.Listed.{Written}
use Rattle.needs.proofs.arrows.write_row.Given as goal

abbrev pub invariant-targets : goal.invariant-targets
invariant-targets l = Written l.list (arrows_upto (wanted_in l.table) l.boxes l.v ++ arrows_from (wanted_in l.table) l.v l.u) l.n
