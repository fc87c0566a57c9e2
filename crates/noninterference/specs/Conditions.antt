-- The conditions on views. They range over a set S of states; `A u s t` says that s and t are alike to box u.
use Rattle.std.specs.Prelude.{◌≡◌, false, ℕ, ◌<◌}
use Rattle.noninterference.specs.Machine.{Machine}
use Rattle.noninterference.specs.Purge.{Policy, Kind, plain, intransitive}

abbrev pub States : Type 1
States = ℕ → Type 0

abbrev pub Likeness : Type 1
Likeness = ℕ → ℕ → ℕ → Type 0

-- Definition 3: a view-partitioned machine has an equivalence for each box
pub record Equivalence (A : Likeness) : Type 0 where
  pub self : (u s : ℕ) → A u s s
  pub turned : (u s t : ℕ) → A u s t → A u t s
  pub joined : (u s t r : ℕ) → A u s t → A u t r → A u s r

-- two states look alike to a box when its view gives both the same class
abbrev pub ByView : (ℕ → ℕ → ℕ) → Likeness
ByView view u s t = view u s ≡ view u t

-- Definition 3, output consistency: states alike to an observer's box look the same to the observer
pub record Output (M : Machine) (S : States) (A : Likeness) : Type 0 where
  pub output : (o s t : ℕ) → o < M.observers → S s → S t → A (M.watcher o) s t → M.sees s o ≡ M.sees t o

-- Definition 4, local respect: an action whose box does not interfere with u leaves the state alike to u
pub record Respect (M : Machine) (S : States) (interferes : Policy) (A : Likeness) : Type 0 where
  pub respect : (u a s : ℕ) → u < M.boxes → a < M.actions → S s → interferes (M.owner a) u ≡ false → A u s (M.step s a)

-- Definition 4, step consistency: states alike to u are alike to u after an action
pub record OrdinaryStep (M : Machine) (S : States) (A : Likeness) : Type 0 where
  pub step : (u a s t : ℕ) → u < M.boxes → a < M.actions → S s → S t → A u s t → A u (M.step s a) (M.step t a)

-- Definition 10, weak step consistency: states alike to u and to the action's box are alike to u after the action
pub record WeakStep (M : Machine) (S : States) (A : Likeness) : Type 0 where
  pub step : (u a s t : ℕ) → u < M.boxes → a < M.actions → S s → S t →
      A u s t → A (M.owner a) s t → A u (M.step s a) (M.step t a)

-- the step condition that each kind of security asks for (Theorem 1, Theorem 7)
abbrev pub Step : Kind → Machine → States → Likeness → Type 0
Step plain M S A = OrdinaryStep M S A
Step intransitive M S A = WeakStep M S A

pub record Conditions (kind : Kind) (M : Machine) (S : States) (interferes : Policy) (A : Likeness) : Type 0 where
  pub output : Output M S A
  pub respect : Respect M S interferes A
  pub step : Step kind M S A
