-- Tests over the numbers below n.
use Rattle.std.specs.Prelude.{◌≡◌, Bool, true, false, List, [], ◌∷◌, ◌++◌, ℕ, zero, suc, ◌<◌}
use Rattle.laws.specs.Choice.{both, either, choose}

-- each number below n passes
unfoldable pub every : ℕ → (ℕ → Bool) → Bool
every zero p = true
every (suc n) p = both (every n p) (p n)

-- some number below n passes
unfoldable pub some : ℕ → (ℕ → Bool) → Bool
some zero p = false
some (suc n) p = either (some n p) (p n)

-- how many numbers below n pass
unfoldable pub count : ℕ → (ℕ → Bool) → ℕ
count zero p = 0
count (suc n) p = choose (p n) (suc (count n p)) (count n p)

-- the first number below n that passes, and n where none does
unfoldable pub first : ℕ → (ℕ → Bool) → ℕ
first zero p = 0
first (suc n) p = choose (p 0) 0 (suc (first n (λ i. p (suc i))))

-- f 0, f 1, .., f (n - 1)
unfoldable pub tabulate : {A : Type 0} → ℕ → (ℕ → A) → List A
tabulate zero f = []
tabulate (suc n) f = tabulate n f ++ (f n ∷ [])

-- every number below i passes: what a loop that has come to i knows
pub record Held (i : ℕ) (p : ℕ → Bool) : Type 0 where
  pub each : (k : ℕ) → k < i → p k ≡ true
