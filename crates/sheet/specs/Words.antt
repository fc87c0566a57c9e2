-- The words that records start with, as bytes.
use Rattle.std.specs.Prelude.{ℕ, List, [], ◌∷◌}

abbrev pub sheet : List ℕ
sheet = 115 ∷ 104 ∷ 101 ∷ 101 ∷ 116 ∷ []

abbrev pub box : List ℕ
box = 98 ∷ 111 ∷ 120 ∷ []

abbrev pub act : List ℕ
act = 97 ∷ 99 ∷ 116 ∷ []

abbrev pub go : List ℕ
go = 103 ∷ 111 ∷ []

abbrev pub flow : List ℕ
flow = 102 ∷ 108 ∷ 111 ∷ 119 ∷ []

abbrev pub both : List ℕ
both = 98 ∷ 111 ∷ 116 ∷ 104 ∷ []

abbrev pub view : List ℕ
view = 118 ∷ 105 ∷ 101 ∷ 119 ∷ []
