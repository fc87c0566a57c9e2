-- The judge's whole answer, for every model and all tables.
use Rattle.std.specs.Prelude.{Bool, true, List, ℕ, eqb, length, Result, Ok, Err}
use Rattle.std.proofs.Math.Option.{Option, none, some}
use Rattle.laws.specs.Choice.{both, choose}
use Rattle.noninterference.specs.Purge.{intransitive}
use Rattle.noninterference.specs.Place.{Place, output, respect, step}
use Rattle.noninterference.specs.Judged.{judged}
use Rattle.model.specs.Limits.{NEXT_ENTRIES, OUTPUT_ENTRIES, VIEW_ENTRIES}
use Rattle.model.specs.Denoted.{machine_of, policy_of, view_of}
use Rattle.model.specs.Refused.{model_table_fits}
use Rattle.model.specs.declared.Model.{Model}
use Rattle.model.specs.Refusal.{refused_as}
use Rattle.model.specs.declared.refusal.Refusal.TheVariants.{Length, Rules}
use Rattle.views.specs.declared.Fault.{Fault}
use Rattle.views.specs.declared.Fault.TheVariants.{Output, Respect, Step, Refused}

-- accepted, or why not
abbrev pub Judgement : Type 0
Judgement = Result (Unit {0}) Fault

abbrev pub accepted : Judgement
accepted = Ok tt

-- the answer's case for what a search finds
unfoldable pub answer : Option Place → Judgement
answer none = accepted
answer (some (output a s t)) = Err (Output a s t)
answer (some (respect u a s)) = Err (Respect u a s)
answer (some (step u a s t)) = Err (Step u a s t)

-- the conditions range over every state of the table
abbrev pub every_state : ℕ → Bool
every_state s = true

-- each table has its length
unfoldable pub lengths_fit : List ℕ → List ℕ → List ℕ → Bool
lengths_fit next outputs views =
    both (eqb (length next) NEXT_ENTRIES) (both (eqb (length outputs) OUTPUT_ENTRIES) (eqb (length views) VIEW_ENTRIES))

-- the first broken place of a model that isn't refused
unfoldable pub first_broken : Model → List ℕ → List ℕ → List ℕ → Judgement
first_broken m next outputs views =
    answer (judged intransitive (machine_of m.machine next outputs) every_state (policy_of m) (view_of m.machine views))

-- the refusals, then the conditions
unfoldable pub judgement_of : Model → List ℕ → List ℕ → List ℕ → Judgement
judgement_of m next outputs views =
    choose (lengths_fit next outputs views)
    (choose (model_table_fits m next) (first_broken m next outputs views) (Err (Refused (refused_as Rules 0)))) (Err (Refused (refused_as Length 0)))
