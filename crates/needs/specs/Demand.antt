-- Demand 3: what an answer of `needed` must be for a machine that is not refused.
use Rattle.std.specs.Prelude.{◌≡◌, ◌↔◌, Bool, true, List, ℕ, ◌*◌, ◌-◌, ◌<◌, ◌≤◌, length, get_or, take, drop, replicate}
use Rattle.laws.specs.Range as range
use Rattle.noninterference.specs.Machine.{Machine}
use Rattle.noninterference.specs.Purge.{Policy, plain}
use Rattle.noninterference.specs.Secure.{Secure, Reflexive}
use Rattle.noninterference.specs.Needed.{Arrow, arrow, Member, Once, NeededList}
use Rattle.noninterference.specs.Depth.{Depth}
use Rattle.noninterference.specs.Reached.{Reach}
use Rattle.model.specs.Limits.{LIST_ENTRIES}
use Rattle.needs.specs.Listed.{flat}

pub record Demand (M : Machine) (count reach : ℕ) (depths list : List ℕ) : Type 0 where
  -- the first 2 × count entries are the list, and the rest is zero
  pub arrows : List Arrow
  pub counted : count ≡ length arrows
  pub on_list : take (2 * count) list ≡ flat arrows
  pub rest_zero : drop (2 * count) list ≡ replicate (LIST_ENTRIES - 2 * count) 0
  -- a policy with all self-arrows is plainly secure exactly where it has every pair on the list
  pub secure : (interferes : Policy) → Reflexive M interferes →
      Secure plain M interferes ↔ ((v u : ℕ) → Member (arrow v u) arrows → interferes v u ≡ true)
  pub needed : NeededList M arrows
  pub few : count ≤ M.boxes * (M.boxes - 1)
  pub no_self : (u : ℕ) → Member (arrow u u) arrows → ⊥
  pub once : Once arrows
  -- each depth is the depth, below the number of reachable states, 0 for a box without observers and beyond the last box
  pub depth : (u : ℕ) → u < M.boxes → Depth M u (get_or depths u 0)
  pub below_reach : (u : ℕ) → u < M.boxes → get_or depths u 0 < reach
  pub silent : (u : ℕ) → u < M.boxes → ((o : ℕ) → o < M.observers → M.watcher o ≡ u → ⊥) → get_or depths u 0 ≡ 0
  pub beyond : (u : ℕ) → M.boxes ≤ u → get_or depths u 0 ≡ 0
  -- reach counts the reachable states
  pub reachable : (inside : ℕ → Bool) → Reach M inside → reach ≡ range.count M.states inside
