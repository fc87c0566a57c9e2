-- `needs::rounds::Moves::note_stayed` meets its contract. The loop's invariant: the list goes on, and has the states passed that stayed.
use Rattle.needs.specs.Again.{Longer, Stayed}
use Rattle.needs.proofs.rounds.Moves.note_stayed.Given as goal

abbrev pub invariant-earlier : goal.invariant-earlier
invariant-earlier l = Longer l.initial.self.list l.self.list l.initial.self.count l.self.count × Stayed l.c l.d l.self.list l.self.count l.old l.t
