-- `needs::outputs::first_round` meets its contract. The loop's invariant: the class numbers of the states passed stand in d, and their small numbers have starts.
use Rattle.reach.specs.Set.{flag_at}
use Rattle.needs.specs.Classes.{Led}
use Rattle.needs.specs.Starts.{Begun}
use Rattle.needs.specs.Own.{seen_by, output_slot, no_class}
use Rattle.needs.proofs.outputs.first_round.Given as goal

abbrev pub invariant-states : goal.invariant-states
invariant-states l = Led (flag_at l.inside) (seen_by l.outputs.own.list l.outputs.own.count l.outputs.table.now l.outputs.actions) l.d l.s
    × Begun (flag_at l.inside) (seen_by l.outputs.own.list l.outputs.own.count l.outputs.table.now l.outputs.actions) no_class (output_slot l.outputs.own.list l.outputs.own.count l.outputs.table.now l.outputs.actions) l.starts l.s
