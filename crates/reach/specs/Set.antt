-- A set of states, read by its flags.
use Rattle.std.specs.Prelude.{Bool, false, List, ℕ, get_or}
use Rattle.laws.specs.Range.{count}
use Rattle.model.specs.Limits.{STATES}
use Rattle.reach.specs.declared.Set.{Set}

-- a flag for each of the most states that there can be
abbrev pub listed : Set → List Bool
listed set = set.flags

abbrev pub of_flags : List Bool → Set
of_flags flags = record { flags = flags }

abbrev pub flag_at : List Bool → ℕ → Bool
flag_at flags s = get_or flags s false

abbrev pub has : Set → ℕ → Bool
has set s = flag_at (listed set) s

abbrev pub size : Set → ℕ
size set = count STATES (has set)
