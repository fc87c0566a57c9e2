-- What the tables say where only parts of a machine are handed on.
use Rattle.std.specs.Prelude.{◌≡◌, Bool, List, ℕ, ◌+◌, ◌*◌, ◌<◌, ◌≤◌, eqb, length, get_or}
use Rattle.laws.specs.Choice.{brings}
use Rattle.laws.specs.Range.{every}
use Rattle.model.specs.Limits.{STATES, ACTIONS, NEXT_ENTRIES, OUTPUT_ENTRIES}
use Rattle.model.specs.Good.{GoodTable}
use Rattle.model.specs.declared.Machine.{Machine}

abbrev pub step_in : ℕ → List ℕ → ℕ → ℕ → ℕ
step_in actions next s a = get_or next (s * actions + a) 0

abbrev pub entry : List ℕ → ℕ → ℕ
entry c s = get_or c s 0

-- each output of u's actions is the same in s and t
abbrev pub seen_in : List ℕ → List ℕ → ℕ → ℕ → ℕ → ℕ → Bool
seen_in owners outputs actions u s t =
    every actions λ a. brings (eqb (get_or owners a 0) u) (eqb (get_or outputs (s * actions + a) 0) (get_or outputs (t * actions + a) 0))

-- actions lead from states to states
pub record Steps (states actions : ℕ) (next : List ℕ) : Type 0 where
  pub states_most : states ≤ STATES
  pub actions_most : actions ≤ ACTIONS
  pub next_long : length next ≡ NEXT_ENTRIES
  pub next_in : (s a : ℕ) → s < states → a < actions → step_in actions next s a < states

-- tables of the right lengths, with a machine that keeps to the rules
pub record Fitting (m : Machine) (next outputs : List ℕ) : Type 0 where
  pub good : GoodTable m next
  pub next_long : length next ≡ NEXT_ENTRIES
  pub outputs_long : length outputs ≡ OUTPUT_ENTRIES
