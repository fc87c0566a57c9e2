-- The actions of one box, listed, and the outputs that they show.
use Rattle.std.specs.Prelude.{◌≡◌, Bool, List, ℕ, ◌+◌, ◌*◌, ◌<◌, ◌≤◌, eqb, length, get_or}
use Rattle.laws.specs.Range.{every}
use Rattle.model.specs.Limits.{ACTIONS, OUTPUT_ENTRIES}
use Rattle.needs.specs.Tables.{entry}
use Rattle.needs.specs.Starts.{slot_of}

-- the actions of u below `actions` stand in the first n places
pub record Owned (owners : List ℕ) (actions u : ℕ) (list : List ℕ) (n : ℕ) : Type 0 where
  pub long : length list ≡ ACTIONS
  pub most : n ≤ actions
  pub within : (i : ℕ) → i < n → entry list i < actions
  pub mine : (i : ℕ) → i < n → get_or owners (entry list i) 0 ≡ u
  pub all : (a : ℕ) → a < actions → get_or owners a 0 ≡ u → (i : ℕ) × (i < n) × (entry list i ≡ a)

-- n actions are listed, and the table of outputs has its length
pub record Listing (outputs : List ℕ) (actions : ℕ) (list : List ℕ) (n : ℕ) : Type 0 where
  pub outputs_long : length outputs ≡ OUTPUT_ENTRIES
  pub actions_most : actions ≤ ACTIONS
  pub most : n ≤ actions
  pub within : (i : ℕ) → i < n → entry list i < actions

abbrev pub output_in : ℕ → List ℕ → ℕ → ℕ → ℕ
output_in actions outputs s a = get_or outputs (s * actions + a) 0

-- each output of the actions listed is the same in t and s
unfoldable pub seen_by : List ℕ → ℕ → List ℕ → ℕ → ℕ → ℕ → Bool
seen_by list n outputs actions t s = every n λ i. eqb (output_in actions outputs t (entry list i)) (output_in actions outputs s (entry list i))

-- the small number of the outputs of the actions listed
abbrev pub output_slot : List ℕ → ℕ → List ℕ → ℕ → ℕ → ℕ
output_slot list n outputs actions s = slot_of n (λ i. output_in actions outputs s (entry list i))

-- before the first round all states are of one class, whose first is 0
abbrev pub no_class : ℕ → ℕ
no_class s = 0
