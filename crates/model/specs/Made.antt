-- Sizes, a machine and a model from their parts.
use Rattle.std.specs.Prelude.{List, ℕ}
use Rattle.model.specs.declared.Sizes.{Sizes}
use Rattle.model.specs.declared.Machine.{Machine}
use Rattle.model.specs.declared.Model.{Model}

abbrev pub sizes_from : ℕ → ℕ → ℕ → ℕ → Sizes
sizes_from states actions boxes start = record { states = states; actions = actions; boxes = boxes; start = start }

abbrev pub machine_from : Sizes → List ℕ → Machine
machine_from sizes owners = record { sizes = sizes; owners = owners }

abbrev pub model_from : Machine → List ℕ → List ℕ → Model
model_from machine ids arrows = record { machine = machine; ids = ids; arrows = arrows }
