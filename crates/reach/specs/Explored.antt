-- A worklist that has entered some reachable states and looked at the first of them.
use Rattle.std.specs.Prelude.{◌≡◌, Bool, true, List, [], ℕ, ◌<◌, length, get_or}
use Rattle.laws.specs.Range.{count}
use Rattle.noninterference.specs.Machine as noninterference
use Rattle.noninterference.specs.Machine.{Reachable}
use Rattle.noninterference.specs.Reached.{Reach}
use Rattle.model.specs.Limits.{STATES}
use Rattle.model.specs.Denoted.{machine_of, next_at}
use Rattle.model.specs.declared.Machine.{Machine}
use Rattle.reach.specs.Set.{flag_at}

-- outputs have no say in what is reachable
abbrev pub moving : Machine → List ℕ → noninterference.Machine
moving m next = machine_of m next []

-- where a state stands in the worklist
pub record Entered (work : List ℕ) (entered s : ℕ) : Type 0 where
  pub at : ℕ
  pub below : at < entered
  pub is : get_or work at 0 ≡ s

-- so many states are entered, each once, and those that the first `done` lead to are among them
pub record Explored (m : Machine) (next : List ℕ) (flags : List Bool) (work : List ℕ) (done entered : ℕ) : Type 0 where
  pub flags_long : length flags ≡ STATES
  pub work_long : length work ≡ STATES
  pub number : count m.sizes.states (flag_at flags) ≡ entered
  pub begun : flag_at flags m.sizes.start ≡ true
  pub small : (s : ℕ) → flag_at flags s ≡ true → s < m.sizes.states
  pub right : (s : ℕ) → flag_at flags s ≡ true → Reachable (moving m next) s
  pub flagged : (i : ℕ) → i < entered → flag_at flags (get_or work i 0) ≡ true
  pub place : (s : ℕ) → flag_at flags s ≡ true → Entered work entered s
  pub looked : (i a : ℕ) → i < done → a < m.sizes.actions → flag_at flags (next_at m next (get_or work i 0) a) ≡ true

-- the state s that stands next in the worklist, of whose actions those below a are looked at
pub record Looking (m : Machine) (next : List ℕ) (flags : List Bool) (work : List ℕ) (done n s a : ℕ) : Type 0 where
  pub so_far : Explored m next flags work done n
  pub is : s ≡ get_or work done 0
  pub below : done < n
  pub each : (b : ℕ) → b < a → flag_at flags (next_at m next s b) ≡ true

-- the flags are of the reachable states
pub record Complete (m : Machine) (next : List ℕ) (flags : List Bool) : Type 0 where
  pub long : length flags ≡ STATES
  pub inside : (s : ℕ) → flag_at flags s ≡ true → s < m.sizes.states
  pub reach : Reach (moving m next) (flag_at flags)
