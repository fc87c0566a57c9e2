-- Arrows as a row of bits for each box: bit u of row v says that an arrow leads from v to u.
use Rattle.std.specs.Prelude.{List, ℕ, zero, suc, get_or, set}
use Rattle.laws.specs.Sets.{has, including}
use Rattle.noninterference.specs.Purge.{Policy}

abbrev pub leads : List ℕ → Policy
leads rows v u = has (get_or rows v 0) u

-- one more, from v to u
abbrev pub drawn : ℕ → ℕ → List ℕ → List ℕ
drawn v u rows = set rows v (including (get_or rows v 0) u)

-- each of the first n boxes to itself
unfoldable pub selves : ℕ → List ℕ → List ℕ
selves zero rows = rows
selves (suc n) rows = drawn n n (selves n rows)
