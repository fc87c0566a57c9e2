-- The words of a verdict, as bytes.
use Rattle.std.specs.Prelude.{ℕ, List, [], ◌∷◌}

abbrev pub refused : List ℕ
refused = 114 ∷ 101 ∷ 102 ∷ 117 ∷ 115 ∷ 101 ∷ 100 ∷ []

abbrev pub views : List ℕ
views = 118 ∷ 105 ∷ 101 ∷ 119 ∷ 115 ∷ []

abbrev pub accepted : List ℕ
accepted = 97 ∷ 99 ∷ 99 ∷ 101 ∷ 112 ∷ 116 ∷ 101 ∷ 100 ∷ []

abbrev pub broken : List ℕ
broken = 98 ∷ 114 ∷ 111 ∷ 107 ∷ 101 ∷ 110 ∷ []

abbrev pub output : List ℕ
output = 111 ∷ 117 ∷ 116 ∷ 112 ∷ 117 ∷ 116 ∷ []

abbrev pub respect : List ℕ
respect = 114 ∷ 101 ∷ 115 ∷ 112 ∷ 101 ∷ 99 ∷ 116 ∷ []

abbrev pub step : List ℕ
step = 115 ∷ 116 ∷ 101 ∷ 112 ∷ []

abbrev pub need : List ℕ
need = 110 ∷ 101 ∷ 101 ∷ 100 ∷ []

abbrev pub depth : List ℕ
depth = 100 ∷ 101 ∷ 112 ∷ 116 ∷ 104 ∷ []

abbrev pub reach : List ℕ
reach = 114 ∷ 101 ∷ 97 ∷ 99 ∷ 104 ∷ []

-- what stands where there is no state
abbrev pub dash : List ℕ
dash = 45 ∷ []
