-- The tests of one place, read off the tables: `noninterference` has them on a machine.
use Rattle.std.specs.Prelude.{Bool, not, List, ℕ, ◌+◌, ◌*◌, eqb, get_or}
use Rattle.laws.specs.Choice.{both, without}

-- s and t are alike to box u
unfoldable pub alike_in : ℕ → List ℕ → ℕ → ℕ → ℕ → Bool
alike_in states views u s t = eqb (get_or views (u * states + s) 0) (get_or views (u * states + t) 0)

-- alike to the action's box o, and the action's outputs differ
unfoldable pub leaks_in : ℕ → ℕ → List ℕ → List ℕ → ℕ → ℕ → ℕ → ℕ → Bool
leaks_in states actions outputs views o a s t =
    without (alike_in states views o s t) (eqb (get_or outputs (s * actions + a) 0) (get_or outputs (t * actions + a) 0))

-- the action changes u's class
unfoldable pub moves_in : ℕ → ℕ → List ℕ → List ℕ → ℕ → ℕ → ℕ → Bool
moves_in states actions next views u a s = not (alike_in states views u s (get_or next (s * actions + a) 0))

-- alike to u and to the action's box o, and no longer to u after the action
unfoldable pub tears_in : ℕ → ℕ → List ℕ → List ℕ → ℕ → ℕ → ℕ → ℕ → ℕ → Bool
tears_in states actions next views u o a s t =
    without (both (alike_in states views u s t) (alike_in states views o s t))
    (alike_in states views u (get_or next (s * actions + a) 0) (get_or next (t * actions + a) 0))
