-- `purge::mark` meets its contract: what stands from i on is marked. Assumes nothing.
use mathlib.Core.Path.{◌≡◌}
use lib.ListN.{length, drop}
use Rattle.purge.specs.Sets.{touching, touches, marked}
use Rattle.purge.proofs.mark.Given as goal

abbrev pub invariant-run : goal.invariant-run
invariant-run l = record {
  long : length l.kept ≡ length l.run;
  set : l.set ≡ touching l.machine.owners l.into l.target (drop l.i l.run);
  marks : drop l.i l.kept ≡ marked (touches l.machine.owners l.into l.target) (drop l.i l.run);
}
