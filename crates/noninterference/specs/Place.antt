-- Where a condition on views is broken, and the order of such places.
use Rattle.std.specs.Prelude.{◌≡◌, ◌≢◌, false, List, [], ◌∷◌, ℕ, ◌<◌}
use Rattle.laws.specs.Order.{Earlier}
use Rattle.noninterference.specs.Machine.{Machine}
use Rattle.noninterference.specs.Purge.{Policy, Kind, plain, intransitive}
use Rattle.noninterference.specs.Conditions.{States}

-- an observer and two states; a box, an action and a state; a box, an action and two states
pub data Place : Type 0 where
  output : ℕ → ℕ → ℕ → Place
  respect : ℕ → ℕ → ℕ → Place
  step : ℕ → ℕ → ℕ → ℕ → Place

-- all of output before respect before step
abbrev pub rank : Place → List ℕ
rank (output o s t) = 0 ∷ o ∷ s ∷ t ∷ []
rank (respect u a s) = 1 ∷ u ∷ a ∷ s ∷ []
rank (step u a s t) = 2 ∷ u ∷ a ∷ s ∷ t ∷ []

-- each number ascending
abbrev pub Before : Place → Place → Type 0
Before p q = Earlier (rank p) (rank q)

-- what step asks besides likeness to u: nothing, or likeness to the action's box
abbrev pub AlikeToo : Kind → Machine → (ℕ → ℕ → ℕ) → ℕ → ℕ → ℕ → Type 0
AlikeToo plain M view a s t = Unit {0}
AlikeToo intransitive M view a s t = view (M.owner a) s ≡ view (M.owner a) t

-- a place of the machine at which its condition fails; of two states the lower stands first
abbrev pub Breaks : Kind → Machine → States → Policy → (ℕ → ℕ → ℕ) → Place → Type 0
Breaks kind M S interferes view (output o s t) =
    (o < M.observers) × (s < t) × S s × S t × (view (M.watcher o) s ≡ view (M.watcher o) t) × (M.sees s o ≢ M.sees t o)
Breaks kind M S interferes view (respect u a s) =
    (u < M.boxes) × (a < M.actions) × S s × (interferes (M.owner a) u ≡ false) × (view u s ≢ view u (M.step s a))
Breaks kind M S interferes view (step u a s t) =
    (u < M.boxes) × (a < M.actions) × (s < t) × S s × S t × (view u s ≡ view u t) × AlikeToo kind M view a s t
    × (view u (M.step s a) ≢ view u (M.step t a))

-- the first broken place among those that a panel looks at: all of them, or those of one condition
pub record FirstBroken (kind : Kind) (M : Machine) (S : States) (interferes : Policy) (view : ℕ → ℕ → ℕ) (In : Place → Type 0) (p : Place) : Type 0 where
  pub inside : In p
  pub breaks : Breaks kind M S interferes view p
  pub none_before : (q : Place) → In q → Before q p → Breaks kind M S interferes view q → ⊥

abbrev pub OfOutput : Place → Type 0
OfOutput (output o s t) = Unit {0}
OfOutput (respect u a s) = ⊥
OfOutput (step u a s t) = ⊥

abbrev pub OfRespect : Place → Type 0
OfRespect (output o s t) = ⊥
OfRespect (respect u a s) = Unit {0}
OfRespect (step u a s t) = ⊥

abbrev pub OfStep : Place → Type 0
OfStep (output o s t) = ⊥
OfStep (respect u a s) = ⊥
OfStep (step u a s t) = Unit {0}

abbrev pub OfAny : Place → Type 0
OfAny p = Unit {0}
