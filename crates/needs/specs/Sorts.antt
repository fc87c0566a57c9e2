-- What sorts states into classes: which are alike, the class before, and a small number that alike states share.
use Rattle.std.specs.Prelude.{◌≡◌, Bool, true, ℕ, ◌≤◌}
use Rattle.model.specs.Limits.{STATES}

pub record Sorts (E : ℕ → ℕ → Bool) (old slot : ℕ → ℕ) (states : ℕ) : Type 0 where
  pub joined : (r t s : ℕ) → E r t ≡ true → E t s ≡ true → E r s ≡ true
  pub of_old : (t s : ℕ) → E t s ≡ true → old t ≡ old s
  pub of_slot : (t s : ℕ) → E t s ≡ true → slot t ≡ slot s
  pub states_most : states ≤ STATES
