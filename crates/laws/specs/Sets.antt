-- A set of small numbers as the bits of a word.
use Rattle.std.specs.Prelude.{Bool, cond, ℕ, zero, suc, ◌+◌, ◌*◌, ◌/◌, ◌%◌, ◌^◌, eqb}
use Rattle.std.specs.Int.Bits.{bit_or}

-- v is in the set
unfoldable pub has : ℕ → ℕ → Bool
has set v = eqb (set / 2 ^ v % 2) 1

-- the set with v too
unfoldable pub including : ℕ → ℕ → ℕ
including set v = bit_or set (2 ^ v)

-- the set of those i, of n, for which v + i passes a test
unfoldable pub pack : (ℕ → Bool) → ℕ → ℕ → ℕ
pack test v zero = 0
pack test v (suc n) = pack test (v + 1) n * 2 + cond (test v) 1 0
