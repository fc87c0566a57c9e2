-- Facts and tests of a list's members.
use Rattle.std.specs.Prelude.{Bool, false, List, [], ◌∷◌, ℕ, eqb}
use Rattle.laws.specs.Choice.{either}

-- a fact of each member
abbrev pub All : (ℕ → Type 0) → List ℕ → Type 0
All p [] = Unit {0}
All p (x ∷ xs) = p x × All p xs

-- some member passes a test
unfoldable pub any : (ℕ → Bool) → List ℕ → Bool
any p [] = false
any p (x ∷ xs) = either (p x) (any p xs)

-- x is a member
unfoldable pub elem : ℕ → List ℕ → Bool
elem x xs = any (eqb x) xs
