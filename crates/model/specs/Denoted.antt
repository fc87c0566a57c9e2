-- What values and tables denote: a kind of purge, a machine, a policy and views.
use Rattle.std.specs.Prelude.{List, ℕ, ◌+◌, ◌*◌, get_or}
use Rattle.noninterference.specs.Machine as noninterference
use Rattle.noninterference.specs.Purge as kinds
use Rattle.noninterference.specs.Purge.{Policy}
use Rattle.model.specs.Arrows.{leads}
use Rattle.model.specs.declared.Kind.{Kind}
use Rattle.model.specs.declared.Kind.TheVariants.{Plain, Intransitive}
use Rattle.model.specs.declared.Machine.{Machine}
use Rattle.model.specs.declared.Model.{Model}

abbrev pub kind_of : Kind → kinds.Kind
kind_of Plain = kinds.plain
kind_of Intransitive = kinds.intransitive

-- next state and output stand at state × actions + action
abbrev pub next_at : Machine → List ℕ → ℕ → ℕ → ℕ
next_at m next s a = get_or next (s * m.sizes.actions + a) 0

abbrev pub output_at : Machine → List ℕ → ℕ → ℕ → ℕ
output_at m outputs s a = get_or outputs (s * m.sizes.actions + a) 0

abbrev pub owner_at : Machine → ℕ → ℕ
owner_at m a = get_or m.owners a 0

-- each action has an output, so the observers are the actions, and watch for their owners
abbrev pub machine_of : Machine → List ℕ → List ℕ → noninterference.Machine
machine_of m next outputs = record {
  states = m.sizes.states;
  actions = m.sizes.actions;
  boxes = m.sizes.boxes;
  start = m.sizes.start;
  step = next_at m next;
  owner = owner_at m;
  observers = m.sizes.actions;
  watcher = owner_at m;
  sees = output_at m outputs;
}

-- the drawn arrows
abbrev pub policy_of : Model → Policy
policy_of m = leads m.arrows

-- a box's class of a state: box position × states + state
abbrev pub view_of : Machine → List ℕ → ℕ → ℕ → ℕ
view_of m views u s = get_or views (u * m.sizes.states + s) 0
