-- What writing at the front of a buffer leaves of it.
use Rattle.std.specs.Prelude.{◌≡◌, ℕ, cond, List, [], ◌++◌, length, drop, nat_le}

-- n bytes, those of xs, were written at the front of b, which is b' now
pub record Written (b b' : List ℕ) (n : ℕ) (xs : List ℕ) : Type 0 where
  pub count : n ≡ length xs
  pub now_is : b' ≡ xs ++ drop n b

-- what is written of xs into b: all of it, or nothing where there is no room
abbrev pub fitting : List ℕ → List ℕ → List ℕ
fitting b xs = cond (nat_le (length xs) (length b)) xs []
