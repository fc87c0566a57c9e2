-- The walk over a run that holds a set of boxes.
use Rattle.std.specs.Prelude.{Bool, List, [], ◌∷◌, ℕ, eqb, get_or}
use Rattle.std.specs.Int.Bits.{bit_or}
use Rattle.laws.specs.Choice.{choose}
use Rattle.laws.specs.Sets.{has}

-- the boxes that interfere with a source, once the run is still to come: `into v` are those that interfere with v
unfoldable pub touching : List ℕ → List ℕ → ℕ → List ℕ → ℕ
touching owners into target [] = target
touching owners into target (a ∷ r) =
    choose (has (touching owners into target r) (get_or owners a 0))
    (bit_or (touching owners into target r) (get_or into (get_or owners a 0) 0)) (touching owners into target r)

unfoldable pub touches : List ℕ → List ℕ → ℕ → ℕ → List ℕ → Bool
touches owners into target a r = has (touching owners into target r) (get_or owners a 0)

-- each action that a test keeps in its place, 255 for the others
unfoldable pub marked : (ℕ → List ℕ → Bool) → List ℕ → List ℕ
marked keep [] = []
marked keep (a ∷ r) = choose (keep a r) a 255 ∷ marked keep r

-- those that are not 255
unfoldable pub present : List ℕ → List ℕ
present [] = []
present (a ∷ r) = choose (eqb a 255) (present r) (a ∷ present r)
