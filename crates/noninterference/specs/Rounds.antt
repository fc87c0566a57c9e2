-- Sameness by rounds of refinement, depth and the needed list, as tests that compute. `inside` tests for the reachable states.
use Rattle.std.specs.Prelude.{Bool, not, List, [], ◌∷◌, ◌++◌, ℕ, zero, suc, ◌+◌, eqb}
use Rattle.laws.specs.Choice.{both, brings, without, choose}
use Rattle.laws.specs.Range.{every, some, first}
use Rattle.noninterference.specs.Machine.{Machine}
use Rattle.noninterference.specs.Needed.{Arrow, arrow}
use Rattle.noninterference.specs.Reached.{reached}

-- box u's observers see the same in s and t
unfoldable pub sees_alike : Machine → ℕ → ℕ → ℕ → Bool
sees_alike M u s t = every M.observers λ o. brings (eqb (M.watcher o) u) (eqb (M.sees s o) (M.sees t o))

-- k rounds do not tell s from t for u: a round looks one action further
unfoldable pub alike : Machine → ℕ → ℕ → ℕ → ℕ → Bool
alike M u zero s t = sees_alike M u s t
alike M u (suc k) s t = both (alike M u k s t) (every M.actions λ a. alike M u k (M.step s a) (M.step t a))

-- round k + 1 tells apart no two states that count and that k rounds did not
unfoldable pub stable : Machine → (ℕ → Bool) → ℕ → ℕ → Bool
stable M inside u k =
    every M.states λ s. every M.states λ t.
    brings (both (both (inside s) (inside t)) (alike M u k s t)) (alike M u (k + 1) s t)

-- the rounds that split something
unfoldable pub depth_in : Machine → (ℕ → Bool) → ℕ → ℕ
depth_in M inside u = first M.states (stable M inside u)

-- an action of v moves a state that counts to one that k rounds tell from it for u
unfoldable pub needed_in : Machine → (ℕ → Bool) → ℕ → ℕ → ℕ → Bool
needed_in M inside k v u =
    both (not (eqb v u))
    (some M.states λ s. both (inside s) (some M.actions λ a. without (eqb (M.owner a) v) (alike M u k s (M.step s a))))

-- the arrows from v to boxes below n, and those from boxes below k, that pass a test
unfoldable pub arrows_from : (ℕ → ℕ → Bool) → ℕ → ℕ → List Arrow
arrows_from test v zero = []
arrows_from test v (suc n) = choose (test v n) (arrows_from test v n ++ (arrow v n ∷ [])) (arrows_from test v n)

unfoldable pub arrows_upto : (ℕ → ℕ → Bool) → ℕ → ℕ → List Arrow
arrows_upto test n zero = []
arrows_upto test n (suc k) = arrows_upto test n k ++ arrows_from test k n

abbrev pub depth_of : Machine → ℕ → ℕ
depth_of M u = depth_in M (reached M) u

abbrev pub needs : Machine → ℕ → ℕ → Bool
needs M v u = needed_in M (reached M) (depth_of M u) v u

abbrev pub needed_list : Machine → List Arrow
needed_list M = arrows_upto (needs M) M.boxes M.boxes
