-- What a verdict tells, apart from its bytes. Boxes are named by their ids.
use Rattle.model.specs.Refusal.{number_of}
use Rattle.std.specs.Prelude.{List, [], ◌∷◌, ℕ, get_or}
use Rattle.std.proofs.Math.Option.{Option, none, some}
use Rattle.laws.specs.Range.{count, tabulate}
use Rattle.noninterference.specs.Machine.{Machine}
use Rattle.noninterference.specs.Purge.{intransitive}
use Rattle.noninterference.specs.Place as places
use Rattle.noninterference.specs.Place.{Place}
use Rattle.noninterference.specs.Judged.{judged}
use Rattle.noninterference.specs.Needed.{Arrow}
use Rattle.noninterference.specs.Reached.{reached}
use Rattle.noninterference.specs.Rounds.{depth_of, needed_list}
use Rattle.model.specs.Denoted.{machine_of, policy_of, view_of}
use Rattle.model.specs.declared.Model.{Model}
use Rattle.views.specs.Judgement.{every_state}
use Rattle.sheet.specs.Reading.{model_of, Reading, model, refusal}
use Rattle.cases.specs.Cases.{Views, accepted, output, respect, step}

-- a refusal's number and line; or the judgement on views, the needed arrows, each box with its depth, and the count of reachable states
pub data Told : Type 0 where
  refused : ℕ → ℕ → Told
  judgement : Views → List (ℕ × ℕ) → List (ℕ × ℕ) → ℕ → Told

abbrev pub id_at : List ℕ → ℕ → ℕ
id_at ids u = get_or ids u 0

-- for output the observer's box
abbrev pub views_by : List ℕ → Machine → Option Place → Views
views_by ids M none = accepted
views_by ids M (some (places.output o s t)) = output (id_at ids (M.watcher o)) o s t
views_by ids M (some (places.respect u a s)) = respect (id_at ids u) a s
views_by ids M (some (places.step u a s t)) = step (id_at ids u) a s t

unfoldable pub arrows_by : List ℕ → List Arrow → List (ℕ × ℕ)
arrows_by ids [] = []
arrows_by ids (x ∷ xs) = (id_at ids x.source, id_at ids x.target) ∷ arrows_by ids xs

-- a model with its tables
unfoldable pub told_of : Model → List ℕ → List ℕ → List ℕ → Told
told_of m next outputs views =
    let M = machine_of m.machine next outputs in
    judgement (views_by m.ids M (judged intransitive M every_state (policy_of m) (view_of m.machine views)))
    (arrows_by m.ids (needed_list M)) (tabulate M.boxes λ u. (id_at m.ids u, depth_of M u)) (count M.states (reached M))

abbrev pub told : Reading → Told
told (refusal e line) = refused (number_of e) line
told (model z p) =
    told_of (model_of z p) p.drawn.steps.next p.drawn.steps.outputs p.drawn.views
