-- The arrows that a machine needs, whatever was drawn.
use Rattle.std.specs.Prelude.{◌≡◌, ◌⊎◌, ◌≢◌, true, List, [], ◌∷◌, ℕ, ◌<◌}
use Rattle.noninterference.specs.Machine.{Machine, Reachable}
use Rattle.noninterference.specs.Purge.{Policy}
use Rattle.noninterference.specs.Same.{Same}

-- some action of v moves some reachable state to one that is not the same to u
pub record Needed (M : Machine) (v u : ℕ) : Type 0 where
  pub other : v ≢ u
  pub state : ℕ
  pub action : ℕ
  pub reachable : Reachable M state
  pub of_machine : action < M.actions
  pub of_source : M.owner action ≡ v
  pub told_apart : ¬ Same M u state (M.step state action)

-- a policy has every needed arrow
pub record Covers (M : Machine) (interferes : Policy) : Type 0 where
  pub covers : (v u : ℕ) → v < M.boxes → u < M.boxes → Needed M v u → interferes v u ≡ true

pub record Arrow : Type 0 where
  pub source : ℕ
  pub target : ℕ

-- by source, then by target
abbrev pub Ahead : Arrow → Arrow → Type 0
Ahead x y = (x.source < y.source) ⊎ ((x.source ≡ y.source) × (x.target < y.target))

abbrev pub AllAhead : Arrow → List Arrow → Type 0
AllAhead x [] = Unit {0}
AllAhead x (y ∷ ys) = Ahead x y × AllAhead x ys

abbrev pub Ascending : List Arrow → Type 0
Ascending [] = Unit {0}
Ascending (x ∷ xs) = AllAhead x xs × Ascending xs

abbrev pub Member : Arrow → List Arrow → Type 0
Member x [] = ⊥
Member x (y ∷ ys) = (x ≡ y) ⊎ Member x ys

-- no arrow stands twice
abbrev pub Once : List Arrow → Type 0
Once [] = Unit {0}
Once (x ∷ xs) = (Member x xs → ⊥) × Once xs

abbrev pub arrow : ℕ → ℕ → Arrow
arrow v u = record { source = v; target = u }

-- the needed arrows between boxes of the machine, and no others, source ascending, then target
pub record NeededList (M : Machine) (l : List Arrow) : Type 0 where
  pub only : (v u : ℕ) → Member (arrow v u) l → (v < M.boxes) × (u < M.boxes) × Needed M v u
  pub each : (v u : ℕ) → v < M.boxes → u < M.boxes → Needed M v u → Member (arrow v u) l
  pub ascending : Ascending l
