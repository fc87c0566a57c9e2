-- The order of places that are lists of numbers.
use Rattle.std.specs.Prelude.{◌≡◌, ◌⊎◌, List, [], ◌∷◌, ℕ, ◌<◌}

-- each number ascending, the first that differs deciding
abbrev pub Earlier : List ℕ → List ℕ → Type 0
Earlier [] ys = ⊥
Earlier (x ∷ xs) [] = ⊥
Earlier (x ∷ xs) (y ∷ ys) = (x < y) ⊎ ((x ≡ y) × Earlier xs ys)
