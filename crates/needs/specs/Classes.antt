-- Classes of states, each named by its first member.
use Rattle.std.specs.Prelude.{◌≡◌, Bool, true, false, List, ℕ, ◌<◌, ◌≤◌, eqb, length}
use Rattle.laws.specs.Choice.{both, brings}
use Rattle.laws.specs.Range.{every, first}
use Rattle.model.specs.Limits.{STATES}
use Rattle.needs.specs.Tables.{step_in, entry}

-- c names the class of each state that counts, where E says which states are alike
pub record Classes (inside : ℕ → Bool) (E : ℕ → ℕ → Bool) (c : ℕ → ℕ) : Type 0 where
  pub member : (s : ℕ) → inside s ≡ true → inside (c s) ≡ true
  pub related : (s : ℕ) → inside s ≡ true → E (c s) s ≡ true
  pub least : (s t : ℕ) → inside s ≡ true → inside t ≡ true → E t s ≡ true → c s ≤ t

-- the first state before s that counts and is alike, and s where there is none
unfoldable pub lowest : (ℕ → Bool) → (ℕ → ℕ → Bool) → ℕ → ℕ
lowest inside E s = first s λ t. both (inside t) (E t s)

-- none before t counts and is alike
pub record Missed (inside : ℕ → Bool) (E : ℕ → ℕ → Bool) (s t : ℕ) : Type 0 where
  pub none : (j : ℕ) → j < t → both (inside j) (E j s) ≡ false

-- t and s have one class number, now and after each action
unfoldable pub agrees : (ℕ → ℕ → ℕ) → ℕ → (ℕ → ℕ) → ℕ → ℕ → Bool
agrees step actions c t s = both (eqb (c t) (c s)) (every actions λ a. eqb (c (step t a)) (c (step s a)))

-- the same of the tables of next states and class numbers
abbrev pub agrees_in : ℕ → List ℕ → List ℕ → ℕ → ℕ → Bool
agrees_in actions next c = agrees (step_in actions next) actions (entry c)

-- no class number of a state that counts differs
unfoldable pub unchanged : ℕ → (ℕ → Bool) → (ℕ → ℕ) → (ℕ → ℕ) → Bool
unchanged states inside c d = every states λ s. brings (inside s) (eqb (c s) (d s))

-- no class number is above its state
pub record Below (states : ℕ) (c : List ℕ) : Type 0 where
  pub upto : (s : ℕ) → s < states → entry c s ≤ s

-- the class numbers of the states below n stand in d
pub record Led (inside : ℕ → Bool) (E : ℕ → ℕ → Bool) (d : List ℕ) (n : ℕ) : Type 0 where
  pub long : length d ≡ STATES
  pub each : (s : ℕ) → s < n → entry d s ≡ lowest inside E s
