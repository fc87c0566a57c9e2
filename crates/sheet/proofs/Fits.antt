-- After a good read a model is not refused: neither by 12, nor its tables by 10.
-- Assumes nothing.
use mathlib.Core.Path.{◌≡◌}
use mathlib.Core.Bool.{true}
use mathlib.Core.List.{List}
use Prim.Native.Nat.{ℕ, ◌+◌, ◌*◌, ◌<◌}
use native.Mathlib.Nat.{le_refl}
use lib.ListN.{length}
use Rattle.laws.proofs.Cells.{cell}
use Rattle.model.specs.Limits.{NEXT_ENTRIES, OUTPUT_ENTRIES, VIEW_ENTRIES}
use Rattle.model.specs.Refused.{model_table_fits}
use Rattle.model.specs.Good.{GoodMachine, GoodTable, GoodDrawing}
use Rattle.model.specs.declared.Sizes.{Sizes}
use Rattle.model.proofs.Good.{model_table_good}
use Rattle.sheet.specs.Reading.{Parts, model_of, model, sheet_text}
use Rattle.sheet.proofs.Sound.{Sound, sound}

module _ {z : Sizes} {p : Parts} (g : Sound z p) where
  good_machine : GoodMachine (model_of z p).machine
  good_machine = record {
    sizes = g.sizes;
    owner_in = λ a l. g.owners.each a l;
  }

  place : {s a : ℕ} → s < z.states → a < z.actions → s * z.actions + a < z.states * z.actions
  place ls la = cell z.states z.actions ls (le_refl z.states) la (le_refl z.actions)

  good_table : GoodTable (model_of z p).machine p.drawn.steps.next
  good_table = record { machine = good_machine; next_in = λ s a ls la. g.drawn.steps.next.each (s * z.actions + a) (place ls la) }

  good_drawing : GoodDrawing (model_of z p)
  good_drawing = record {
    id_small = λ u l. g.ids.filled.each u l;
    id_once = λ u v l k. g.ids.apart v u k l;
    arrow_in = g.drawn.arrows.within;
    self = g.drawn.arrows.selves;
  }

  pub fits : model_table_fits (model_of z p) p.drawn.steps.next ≡ true
  fits = (model_table_good _ _).1 (good_table, good_drawing)

pub read_fits : (t : List ℕ) {z : Sizes} {p : Parts} → sheet_text t ≡ model z p →
    (model_table_fits (model_of z p) p.drawn.steps.next ≡ true)
    × (length p.drawn.steps.next ≡ NEXT_ENTRIES) × (length p.drawn.steps.outputs ≡ OUTPUT_ENTRIES) × (length p.drawn.views ≡ VIEW_ENTRIES)
read_fits t e = let g = sound t e in (fits g, g.drawn.steps.next.room, g.drawn.steps.outputs.room, g.drawn.views.room)
