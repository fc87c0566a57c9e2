-- `needs::likeness::first_from` meets its contract. The loop's invariant: no state passed counts and is alike to s.
use Rattle.reach.specs.Set.{flag_at}
use Rattle.needs.specs.Classes.{Missed}
use Rattle.needs.proofs.likeness.first_from.Given as goal

abbrev pub invariant-earlier : goal.invariant-earlier
invariant-earlier g l = Missed (flag_at l.inside) (g.L.Likeness.alike l.likeness) l.s l.t
