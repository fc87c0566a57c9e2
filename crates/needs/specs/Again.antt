-- Which states a round looks at again: those with a next state outside the part that is kept of its old class.
use Rattle.std.specs.Prelude.{◌≡◌, ◌≢◌, Bool, true, false, List, ℕ, ◌+◌, ◌*◌, ◌<◌, ◌≤◌, ltb, length}
use Rattle.laws.specs.Choice.{either, choose}
use Rattle.model.specs.Limits.{STATES}
use Rattle.reach.specs.Set.{flag_at}
use Rattle.needs.specs.Tables.{step_in, entry}
use Rattle.needs.specs.Classes.{lowest, agrees}

-- row x has the states that some action takes to x
pub record Befores (states actions : ℕ) (next : List ℕ) (before : List Bool) : Type 0 where
  pub marked : (s a : ℕ) → s < states → a < actions → flag_at before (step_in actions next s a * STATES + s) ≡ true

-- the marks with row x added
pub record Merged (before marks marks' : List Bool) (x : ℕ) : Type 0 where
  pub long : length marks' ≡ STATES
  pub each : (s : ℕ) → s < STATES → flag_at marks' s ≡ either (flag_at marks s) (flag_at before (x * STATES + s))

-- next states that had one number have one again, where the states that they come from are not marked
pub record Touched (states actions : ℕ) (next c d : List ℕ) (marks : List Bool) : Type 0 where
  pub kept : (s t a : ℕ) → s < states → t < states → a < actions → flag_at marks s ≡ false → flag_at marks t ≡ false →
      entry c (step_in actions next s a) ≡ entry c (step_in actions next t a) → entry d (step_in actions next s a) ≡ entry d (step_in actions next t a)

-- n states stand in a list
pub record Places (list : List ℕ) (n : ℕ) : Type 0 where
  pub long : length list ≡ STATES
  pub most : n ≤ STATES
  pub within : (i : ℕ) → i < n → entry list i < STATES

-- x stands in the first n places
pub record On (list : List ℕ) (n x : ℕ) : Type 0 where
  pub place : ℕ
  pub below : place < n
  pub here : entry list place ≡ x

-- a list goes on: unless it is full, what stood in it still does
pub record Longer (list list' : List ℕ) (n n' : ℕ) : Type 0 where
  pub places : Places list' n'
  pub more : n ≤ n'
  pub stays : n' < STATES → (x : ℕ) → On list n x → On list' n' x

-- the states from `old` to s that have that class number again stand in it, unless it is full
pub record Stayed (c d list : List ℕ) (n old s : ℕ) : Type 0 where
  pub listed : n < STATES → (t : ℕ) → old ≤ t → t < s → entry c t ≡ old → entry d t ≡ old → On list n t

-- the states that do not stand in a list stay with those of their class, unless it is full
pub record Moved (states : ℕ) (c d list : List ℕ) (n : ℕ) : Type 0 where
  pub places : Places list n
  pub together : n < STATES → (x y : ℕ) → x < states → y < states → (On list n x → ⊥) → (On list n y → ⊥) → entry c x ≡ entry c y → entry d x ≡ entry d y

-- every state that leads to one of the first n listed is marked
pub record Covered (before : List Bool) (list : List ℕ) (marks : List Bool) (n : ℕ) : Type 0 where
  pub long : length marks ≡ STATES
  pub seen : (i s : ℕ) → i < n → s < STATES → flag_at marks s ≡ false → flag_at before (entry list i * STATES + s) ≡ false

-- two states that are not marked and have one class number agree
pub record Quiet (states actions : ℕ) (next c : List ℕ) (marks : List Bool) : Type 0 where
  pub agree : (s t : ℕ) → s < states → t < states → flag_at marks s ≡ false → flag_at marks t ≡ false → entry c s ≡ entry c t →
      agrees (step_in actions next) actions (entry c) s t ≡ true

-- l is the next class number of a state below n that counts, is not marked and has class number i
pub record LeadAt (actions : ℕ) (next c : List ℕ) (inside marks : List Bool) (i l n : ℕ) : Type 0 where
  pub at : ℕ
  pub below : at < n
  pub unmarked : flag_at marks at ≡ false
  pub counts : flag_at inside at ≡ true
  pub class : entry c at ≡ i
  pub number : l ≡ lowest (flag_at inside) (agrees (step_in actions next) actions (entry c)) at

-- what stands at a class number in `lead`, where something does
pub record Leads (actions : ℕ) (next c lead : List ℕ) (inside marks : List Bool) (n : ℕ) : Type 0 where
  pub long : length lead ≡ STATES
  pub known : (i : ℕ) → i < STATES → entry lead i < STATES → LeadAt actions next c inside marks i (entry lead i) n

-- the number that the kept part of an old class has: what stands there in `lead`, or the old one again
unfoldable pub kept_number : List ℕ → ℕ → ℕ
kept_number lead i = choose (ltb (entry lead i) STATES) (entry lead i) i

-- the states below s outside the kept part of their old class stand in a list, unless it is full
pub record MovedTo (s : ℕ) (c d lead list : List ℕ) (n : ℕ) : Type 0 where
  pub places : Places list n
  pub listed : n < STATES → (x : ℕ) → x < s → entry d x ≢ kept_number lead (entry c x) → On list n x
