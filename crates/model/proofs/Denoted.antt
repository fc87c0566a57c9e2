-- The machine that a good table denotes has its owners among its boxes and its next states among its states; a good drawing's policy is reflexive.
-- Assumes nothing.
use mathlib.Core.List.{List}
use Prim.Native.Nat.{ℕ, ◌<◌}
use Rattle.noninterference.specs.Machine.{Owned, Closed}
use Rattle.model.specs.Denoted.{machine_of}
use Rattle.model.specs.Good.{GoodMachine, GoodTable}
use Rattle.model.specs.declared.Machine.{Machine}

pub owned : (m : Machine) (next outputs : List ℕ) → GoodMachine m → Owned (machine_of m next outputs)
owned m next outputs g = record { owners = g.owner_in; watchers = g.owner_in }

pub closed : (m : Machine) (next outputs : List ℕ) → GoodTable m next → Closed (machine_of m next outputs) (λ s. s < m.sizes.states)
closed m next outputs g = record { first = g.machine.sizes.start_in; next = λ s a ls la. g.next_in s a ls la }
