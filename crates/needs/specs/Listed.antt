-- The list of arrows as it stands in the lent buffer.
use Rattle.std.specs.Prelude.{◌≡◌, List, [], ◌∷◌, ◌++◌, ℕ, ◌*◌, ◌-◌, length, replicate}
use Rattle.noninterference.specs.Needed.{Arrow}
use Rattle.model.specs.Limits.{LIST_ENTRIES}

-- source and target of each arrow in turn
unfoldable pub flat : List Arrow → List ℕ
flat [] = []
flat (x ∷ xs) = x.source ∷ x.target ∷ flat xs

-- the pairs, and zeros after them
unfoldable pub padded : List Arrow → List ℕ
padded l = flat l ++ replicate (LIST_ENTRIES - 2 * length l) 0

pub record Written (list : List ℕ) (l : List Arrow) (n : ℕ) : Type 0 where
  pub long : length list ≡ LIST_ENTRIES
  pub is : list ≡ padded l
  pub count : n ≡ length l
