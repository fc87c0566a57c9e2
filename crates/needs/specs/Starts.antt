-- Where the search for the first of a class begins: each state has a small number, which states that are alike share, and each small number its first state.
use Rattle.std.specs.Prelude.{◌≡◌, ◌≢◌, Bool, true, List, ℕ, zero, suc, ◌+◌, ◌*◌, ◌%◌, ◌<◌, ◌≤◌, length}
use Rattle.needs.specs.Tables.{step_in, entry}
use Rattle.needs.specs.Classes.{lowest}

abbrev pub SLOTS : ℕ
SLOTS = 256

-- the small number of n numbers
unfoldable pub slot_of : ℕ → (ℕ → ℕ) → ℕ
slot_of zero f = 0
slot_of (suc n) f = (5 * slot_of n f + f n) % SLOTS

-- of the class numbers after each action
abbrev pub next_slot : ℕ → List ℕ → List ℕ → ℕ → ℕ
next_slot actions next c s = slot_of actions (λ a. entry c (step_in actions next s a))

-- of the states below n that lead a class, but for those that led their old one, none is before the start of its small number
pub record Begun (inside : ℕ → Bool) (E : ℕ → ℕ → Bool) (old slot : ℕ → ℕ) (starts : List ℕ) (n : ℕ) : Type 0 where
  pub long : length starts ≡ SLOTS
  pub each : (t : ℕ) → t < n → inside t ≡ true → lowest inside E t ≡ t → t ≢ old t → entry starts (slot t) ≤ t

-- r is where the search of s begins, and s may be a start from now on
pub record Began (starts starts' : List ℕ) (slot s r : ℕ) : Type 0 where
  pub long : length starts' ≡ SLOTS
  pub most : r ≤ s
  pub low : r ≤ entry starts slot
  pub here : entry starts' slot ≤ s
  pub lower : (k : ℕ) → entry starts' k ≤ entry starts k
