-- Purging a run for a box: one walk over a test, and two tests.
use Rattle.std.specs.Prelude.{Bool, List, [], ◌∷◌, ℕ}
use Rattle.laws.specs.Choice.{choose}
use Rattle.laws.specs.Lists.{any, elem}

-- `interferes v u`: Definition 1's policy, any relation between boxes
abbrev pub Policy : Type 0
Policy = ℕ → ℕ → Bool

-- the actions that a test keeps: `keep a r` is asked of action a in front of the rest r
unfoldable pub purge : (ℕ → List ℕ → Bool) → List ℕ → List ℕ
purge keep [] = []
purge keep (a ∷ r) = choose (keep a r) (a ∷ purge keep r) (purge keep r)

-- Definition 8: the boxes that may pass something on to u while the run is still to come, worked from its right end
unfoldable pub sources : (ℕ → ℕ) → Policy → ℕ → List ℕ → List ℕ
sources owner interferes u [] = u ∷ []
sources owner interferes u (a ∷ r) =
    choose (any (interferes (owner a)) (sources owner interferes u r))
    (owner a ∷ sources owner interferes u r) (sources owner interferes u r)

pub data Kind : Type 0 where
  plain : Kind
  intransitive : Kind

-- Definition 2: kept where its box interferes with u. Definition 8: kept where its box is in the sources of the run that starts with it
unfoldable pub keeps : Kind → (ℕ → ℕ) → Policy → ℕ → ℕ → List ℕ → Bool
keeps plain owner interferes u a r = interferes (owner a) u
keeps intransitive owner interferes u a r = elem (owner a) (sources owner interferes u (a ∷ r))
