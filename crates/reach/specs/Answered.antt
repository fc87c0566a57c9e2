-- What `reached` answers.
use Rattle.std.specs.Prelude.{Bool, List, [], ◌∷◌, ℕ, eqb, ltb, length, Result, Ok, Err}
use Rattle.laws.specs.Choice.{both, choose}
use Rattle.laws.specs.Range.{tabulate}
use Rattle.noninterference.specs.Reached.{reached}
use Rattle.model.specs.Limits.{STATES, NEXT_ENTRIES}
use Rattle.model.specs.Refused.{machine_table_fits}
use Rattle.model.specs.Refusal.{number_of, refused_as}
use Rattle.model.specs.declared.Machine.{Machine}
use Rattle.model.specs.declared.refusal.Refusal.TheVariants.{Length, Rules}
use Rattle.model.specs.declared.refusal.Refused.{Refused}
use Rattle.reach.specs.Explored.{moving}
use Rattle.reach.specs.Set.{of_flags}
use Rattle.reach.specs.declared.Set.{Set}

-- the numbers that an answer stands for: of the refusal, and its line
abbrev pub told : Result Set Refused → List ℕ
told (Ok set) = 0 ∷ 0 ∷ []
told (Err refused) = number_of refused.refusal ∷ refused.line ∷ []

-- the reachable states, and none where the call is refused
unfoldable pub flags_of : Machine → List ℕ → List Bool
flags_of m next =
    tabulate STATES λ s.
    both (both (eqb (length next) NEXT_ENTRIES) (machine_table_fits m next)) (both (ltb s m.sizes.states) (reached (moving m next) s))

abbrev pub set_of : Machine → List ℕ → Set
set_of m next = of_flags (flags_of m next)

-- refused: a table of another length, and a machine or a next state that breaks the rules
unfoldable pub answer_of : Machine → List ℕ → Result Set Refused
answer_of m next =
    choose (eqb (length next) NEXT_ENTRIES) (choose (machine_table_fits m next) (Ok (set_of m next)) (Err (refused_as Rules 0))) (Err (refused_as Length 0))
