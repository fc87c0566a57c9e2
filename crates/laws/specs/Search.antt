-- A search over the numbers below n, ascending. A search over nested ranges is a search whose test is a search.
use Rattle.std.specs.Prelude.{◌≡◌, ℕ, zero, suc, ◌<◌}
use Rattle.std.proofs.Math.Option.{Option, none, some}
use Rattle.laws.specs.Choice.{or_else}

-- the first answer that f gives below n
unfoldable pub first_of : {A : Type 0} → ℕ → (ℕ → Option A) → Option A
first_of zero f = none
first_of (suc n) f = or_else (first_of n f) (f n)

-- f gives no answer below i: what a loop that has come to i knows
pub record Passed {A : Type 0} (i : ℕ) (f : ℕ → Option A) : Type 0 where
  pub clear : (k : ℕ) → k < i → f k ≡ none

-- x is the answer at the first number below n that has one
pub record First {A : Type 0} (n : ℕ) (f : ℕ → Option A) (x : A) : Type 0 where
  pub at : ℕ
  pub below : at < n
  pub before : Passed at f
  pub here : f at ≡ some x
