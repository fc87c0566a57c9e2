-- What `needed` answers, and what stands on the list after it.
use Rattle.std.specs.Prelude.{Bool, List, [], ◌∷◌, ℕ, eqb, ltb, length, replicate, Result, Ok, Err}
use Rattle.laws.specs.Choice.{both, choose}
use Rattle.laws.specs.Range.{count, tabulate}
use Rattle.noninterference.specs.Machine as noninterference
use Rattle.noninterference.specs.Reached.{reached}
use Rattle.noninterference.specs.Rounds.{depth_of, needed_list}
use Rattle.model.specs.Limits.{BOXES, NEXT_ENTRIES, OUTPUT_ENTRIES, LIST_ENTRIES}
use Rattle.model.specs.Denoted.{machine_of}
use Rattle.model.specs.Refused.{machine_table_fits}
use Rattle.model.specs.Refusal.{number_of, refused_as}
use Rattle.model.specs.declared.Machine.{Machine}
use Rattle.model.specs.declared.refusal.Refusal.TheVariants.{Length, Rules}
use Rattle.model.specs.declared.refusal.Refused.{Refused}
use Rattle.needs.specs.Listed.{padded}
use Rattle.needs.specs.declared.Needs.{Needs}

-- the numbers that an answer stands for: of the refusal, its line, of needed pairs, of reachable states
abbrev pub told : Result Needs Refused → List ℕ
told (Ok needs) = 0 ∷ 0 ∷ needs.count ∷ needs.reach ∷ []
told (Err refused) = number_of refused.refusal ∷ refused.line ∷ 0 ∷ 0 ∷ []

-- the depth of each box, and 0 beyond the last one
abbrev pub depths_of : noninterference.Machine → List ℕ
depths_of M = tabulate BOXES λ u. choose (ltb u M.boxes) (depth_of M u) 0

abbrev pub found_in : noninterference.Machine → Needs
found_in M = record { count = length (needed_list M); reach = count M.states (reached M); depths = depths_of M }

unfoldable pub lengths_fit : List ℕ → List ℕ → List ℕ → Bool
lengths_fit next outputs list =
    both (eqb (length outputs) OUTPUT_ENTRIES) (both (eqb (length list) LIST_ENTRIES) (eqb (length next) NEXT_ENTRIES))

unfoldable pub needed_of : Machine → List ℕ → List ℕ → List ℕ → Result Needs Refused
needed_of m next outputs list =
    choose (lengths_fit next outputs list)
    (choose (machine_table_fits m next) (Ok (found_in (machine_of m next outputs))) (Err (refused_as Rules 0))) (Err (refused_as Length 0))

-- untouched, zeroed, or the needed pairs and zeros
unfoldable pub list_of : Machine → List ℕ → List ℕ → List ℕ → List ℕ
list_of m next outputs list =
    choose (lengths_fit next outputs list)
    (choose (machine_table_fits m next) (padded (needed_list (machine_of m next outputs))) (replicate LIST_ENTRIES 0)) list
