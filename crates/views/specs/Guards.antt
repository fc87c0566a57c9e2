-- What spares the judge its loops over states and pairs of states: the first alike state of each state, and what it settles.
use Rattle.std.specs.Prelude.{◌≡◌, Bool, true, false, List, ℕ, ◌+◌, ◌*◌, ◌<◌, ◌≤◌, ◌/◌, ◌%◌, eqb, get_or, length}
use Rattle.laws.specs.Range.{every}
use Rattle.model.specs.Limits.{STATES, ACTIONS, BOXES}

-- the first alike states; the slots of one box; the numbers of pairs of classes; what is noted for each box and action
abbrev pub LOWS : ℕ
LOWS = BOXES * STATES

abbrev pub SLOTS : ℕ
SLOTS = 256

abbrev pub SPOTS : ℕ
SPOTS = STATES * STATES

abbrev pub KEPT : ℕ
KEPT = BOXES * ACTIONS

abbrev pub class_at : ℕ → List ℕ → ℕ → ℕ → ℕ
class_at states views u s = get_or views (u * states + s) 0

-- the table of first alike states: box × STATES + state
abbrev pub low_at : List ℕ → ℕ → ℕ → ℕ
low_at low u s = get_or low (u * STATES + s) 0

-- that of the state that the action leads to
abbrev pub sent : ℕ → List ℕ → List ℕ → ℕ → ℕ → ℕ → ℕ
sent actions next low u a s = low_at low u (get_or next (s * actions + a) 0)

-- one number for the classes of s for both boxes
abbrev pub spot : List ℕ → ℕ → ℕ → ℕ → ℕ
spot low u o s = low_at low u s * STATES + low_at low o s

-- r is the first state that is alike to s for box u
pub record Least (states : ℕ) (views : List ℕ) (u s r : ℕ) : Type 0 where
  pub upto : r ≤ s
  pub like : class_at states views u r ≡ class_at states views u s
  pub none : (j : ℕ) → j < r → class_at states views u j ≡ class_at states views u s → ⊥

-- what stands in a table names a state of the most that there can be
pub record Small (low : List ℕ) : Type 0 where
  pub small : (i : ℕ) → get_or low i 0 < STATES

pub record Lows (states boxes : ℕ) (views low : List ℕ) : Type 0 where
  pub small : Small low
  pub least : (u s : ℕ) → u < boxes → s < states → Least states views u s (low_at low u s)

-- the table is filled for all boxes before u, and for u up to s
pub record Filled (states : ℕ) (views low : List ℕ) (u s : ℕ) : Type 0 where
  pub size : length low ≡ LOWS
  pub small : Small low
  pub rows : (v j : ℕ) → v < u → j < states → Least states views v j (low_at low v j)
  pub row : (j : ℕ) → j < s → Least states views u j (low_at low u j)

-- a small number that equal classes share
unfoldable pub slot_of : ℕ → ℕ
slot_of c = (c / SLOTS + c % SLOTS) % SLOTS

-- the slot of each state below n names that state or an earlier one
pub record Slots (states : ℕ) (views : List ℕ) (u n : ℕ) (slots : List ℕ) : Type 0 where
  pub size : length slots ≡ SLOTS
  pub upto : (j : ℕ) → j < n → get_or slots (slot_of (class_at states views u j)) 0 ≤ j

-- another small number, which no two classes share that share the first
unfoldable pub other_of : ℕ → ℕ
other_of c = c / SLOTS % SLOTS

-- the second slot of each state below n whose first slot names another class names that state or an earlier one
pub record Others (states : ℕ) (views : List ℕ) (u n : ℕ) (slots others : List ℕ) : Type 0 where
  pub size : length others ≡ SLOTS
  pub upto : (j : ℕ) → j < n → (class_at states views u (get_or slots (slot_of (class_at states views u j)) 0) ≡ class_at states views u j → ⊥) →
      get_or others (other_of (class_at states views u j)) 0 ≤ j

-- the second slot of s names no state after an earlier one of its class
pub record Second (states : ℕ) (views : List ℕ) (u s : ℕ) (others : List ℕ) : Type 0 where
  pub size : length others ≡ SLOTS
  pub upto : (j : ℕ) → j < s → class_at states views u j ≡ class_at states views u s → get_or others (other_of (class_at states views u s)) 0 ≤ j

-- after s was seen to, its second slot names it or an earlier one, and no slot names a later state than before
pub record Noted (states : ℕ) (views : List ℕ) (u s : ℕ) (before after : List ℕ) : Type 0 where
  pub size : length after ≡ SLOTS
  pub here : get_or after (other_of (class_at states views u s)) 0 ≤ s
  pub lower : (i : ℕ) → get_or after i 0 ≤ get_or before i 0

-- the action changes no state
pub record Idle (states actions : ℕ) (next : List ℕ) (a : ℕ) : Type 0 where
  pub idle : (s : ℕ) → s < states → get_or next (s * actions + a) 0 ≡ s

-- the action changes no state's class for u
pub record Keeps (states actions : ℕ) (next low : List ℕ) (u a : ℕ) : Type 0 where
  pub keeps : (s : ℕ) → s < states → low_at low u s ≡ sent actions next low u a s

-- what is noted holds: box × ACTIONS + action
pub record Kept (states actions : ℕ) (next low : List ℕ) (kept : List Bool) : Type 0 where
  pub size : length kept ≡ KEPT
  pub noted : (u a : ℕ) → a < ACTIONS → get_or kept (u * ACTIONS + a) false ≡ true → Keeps states actions next low u a

-- no two states are alike to u
unfoldable pub alone_in : ℕ → List ℕ → ℕ → Bool
alone_in states low u = every states λ s. eqb (low_at low u s) s

-- what is found out for each box holds
pub record Alones (states : ℕ) (low : List ℕ) (alones : List Bool) : Type 0 where
  pub size : length alones ≡ BOXES
  pub alone : (u : ℕ) → get_or alones u false ≡ true → alone_in states low u ≡ true

-- each state and the first one alike to u go to states alike to u
unfoldable pub strong_in : ℕ → ℕ → List ℕ → List ℕ → ℕ → ℕ → Bool
strong_in states actions next low u a = every states λ s. eqb (sent actions next low u a s) (sent actions next low u a (low_at low u s))

-- the action's output at each state is that at the first one alike to o
unfoldable pub quiet_in : ℕ → ℕ → List ℕ → List ℕ → ℕ → ℕ → Bool
quiet_in states actions outputs low o a =
    every states λ s. eqb (get_or outputs (s * actions + a) 0) (get_or outputs (low_at low o s * actions + a) 0)

-- r tells whether t is below s and has the number i
pub record Links (low : List ℕ) (u o i s t : ℕ) (r : Bool) : Type 0 where
  pub below : r ≡ true → t < s
  pub like : r ≡ true → spot low u o t ≡ i
  pub other : r ≡ false → t < s → spot low u o t ≡ i → ⊥

-- the action keeps u's likeness of all states that are alike to u and to o
pub record Calm (states actions : ℕ) (next low : List ℕ) (u o a : ℕ) : Type 0 where
  pub calm : (s t : ℕ) → s < states → t < states → low_at low u s ≡ low_at low u t → low_at low o s ≡ low_at low o t →
      sent actions next low u a s ≡ sent actions next low u a t
