-- The first broken place as three searches that compute. `counts` tests for the states that are looked at.
use Rattle.std.specs.Prelude.{Bool, true, not, ℕ, eqb, ltb}
use Rattle.std.proofs.Math.Option.{Option, some}
use Rattle.laws.specs.Choice.{both, without, when, or_else}
use Rattle.laws.specs.Search.{first_of}
use Rattle.noninterference.specs.Machine.{Machine}
use Rattle.noninterference.specs.Purge.{Policy, Kind, plain, intransitive}
use Rattle.noninterference.specs.Place.{Place, output, respect, step}

-- alike to the observer's box, and the observer sees a difference
unfoldable pub leaks : Machine → (ℕ → ℕ → ℕ) → ℕ → ℕ → ℕ → Bool
leaks M view o s t = without (eqb (view (M.watcher o) s) (view (M.watcher o) t)) (eqb (M.sees s o) (M.sees t o))

-- the action changes u's class
unfoldable pub moves : Machine → (ℕ → ℕ → ℕ) → ℕ → ℕ → ℕ → Bool
moves M view u a s = not (eqb (view u s) (view u (M.step s a)))

unfoldable pub alike_too : Kind → Machine → (ℕ → ℕ → ℕ) → ℕ → ℕ → ℕ → Bool
alike_too plain M view a s t = true
alike_too intransitive M view a s t = eqb (view (M.owner a) s) (view (M.owner a) t)

-- alike to u, and to the action's box where the kind asks for it, and no longer to u after the action
unfoldable pub tears : Kind → Machine → (ℕ → ℕ → ℕ) → ℕ → ℕ → ℕ → ℕ → Bool
tears kind M view u a s t =
    without (both (eqb (view u s) (view u t)) (alike_too kind M view a s t)) (eqb (view u (M.step s a)) (view u (M.step t a)))

-- the first answer at a state that counts, and at two such states s < t
abbrev pub first_state : ℕ → (ℕ → Bool) → (ℕ → Option Place) → Option Place
first_state states counts f = first_of states (λ s. when (counts s) (f s))

abbrev pub first_pair : ℕ → (ℕ → Bool) → (ℕ → ℕ → Option Place) → Option Place
first_pair states counts f = first_state states counts (λ s. first_state states counts (λ t. when (ltb s t) (f s t)))

-- by observer, s, t
unfoldable pub first_output : Machine → (ℕ → Bool) → (ℕ → ℕ → ℕ) → Option Place
first_output M counts view =
    first_of M.observers λ o. first_pair M.states counts λ s t. when (leaks M view o s t) (some (output o s t))

-- by box, action, state
unfoldable pub first_respect : Machine → (ℕ → Bool) → Policy → (ℕ → ℕ → ℕ) → Option Place
first_respect M counts interferes view =
    first_of M.boxes λ u. first_of M.actions λ a.
    when (not (interferes (M.owner a) u)) (first_state M.states counts λ s. when (moves M view u a s) (some (respect u a s)))

-- by box, action, s, t
unfoldable pub first_step : Kind → Machine → (ℕ → Bool) → (ℕ → ℕ → ℕ) → Option Place
first_step kind M counts view =
    first_of M.boxes λ u. first_of M.actions λ a. first_pair M.states counts λ s t. when (tears kind M view u a s t) (some (step u a s t))

-- none: the views are accepted
unfoldable pub judged : Kind → Machine → (ℕ → Bool) → Policy → (ℕ → ℕ → ℕ) → Option Place
judged kind M counts interferes view =
    or_else (first_output M counts view) (or_else (first_respect M counts interferes view) (first_step kind M counts view))
