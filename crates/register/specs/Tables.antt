-- Tables of full length from what is printed of a small model: zero beyond it.
use Rattle.std.specs.Prelude.{List, [], ◌∷◌, ◌++◌, ℕ, zero, suc, ◌-◌, length, get_or, replicate}
use Rattle.model.specs.Arrows.{drawn, selves}
use Rattle.model.specs.Limits.{BOXES}

-- a list made so long with zeros
abbrev pub full : ℕ → List ℕ → List ℕ
full n xs = xs ++ replicate (n - length xs) 0

-- what stands in one column of printed rows
unfoldable pub column : List (List ℕ) → ℕ → List ℕ
column [] s = []
column (row ∷ rows) s = get_or row s 0 ∷ column rows s

-- a row for each action, printed by state, as a table: state × actions + action
unfoldable pub by_state : List (List ℕ) → ℕ → List ℕ
by_state rows zero = []
by_state rows (suc states) = by_state rows states ++ column rows states

-- a row for each box, printed by state: box position × states + state
unfoldable pub by_box : List (List ℕ) → List ℕ
by_box [] = []
by_box (row ∷ rows) = row ++ by_box rows

-- the self-arrows of so many boxes, and the arrows that are listed as pairs of positions
unfoldable pub draws : ℕ → List (ℕ × ℕ) → List ℕ
draws n [] = selves n (replicate BOXES 0)
draws n (p ∷ ps) = drawn p.0 p.1 (draws n ps)
