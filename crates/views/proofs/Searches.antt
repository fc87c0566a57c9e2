-- The three searches of `noninterference`, read off the tables, level by level.
-- Assumes nothing.
use mathlib.Core.Path.{◌≡◌, refl, sym, ap, ◌∙◌}
use mathlib.Core.Bool.{true, not}
use mathlib.Core.List.{List, []}
use mathlib.Core.Option.{Option, some}
use Prim.Native.Nat.{ℕ}
use lib.Dec.{ltb}
use lib.ListN.{get_or}
use Rattle.laws.specs.Choice.{when}
use Rattle.laws.specs.Search.{first_of}
use Rattle.noninterference.specs.Purge.{intransitive}
use Rattle.noninterference.specs.Place.{Place, output, respect, step}
use Rattle.noninterference.specs.Judged.{leaks, moves, alike_too, tears, first_output, first_respect, first_step}
use Rattle.model.specs.Arrows.{leads}
use Rattle.model.specs.Denoted.{machine_of, policy_of, view_of}
use Rattle.model.specs.declared.Machine.{Machine}
use Rattle.model.specs.declared.Model.{Model}
use Rattle.views.specs.Judgement.{answer, every_state}
use Rattle.views.specs.Tables.{alike_in, leaks_in, moves_in, tears_in}

module _ (states actions : ℕ) (owners outputs views : List ℕ) where
  -- at action a and s < t; at action a and s; at action a
  abbrev pub output_at : ℕ → ℕ → ℕ → Option Place
  output_at a s t = when true (when (ltb s t) (when (leaks_in states actions outputs views (get_or owners a 0) a s t) (some (output a s t))))

  abbrev pub output_from : ℕ → ℕ → Option Place
  output_from a s = when true (first_of states (output_at a s))

  abbrev pub output_of : ℕ → Option Place
  output_of a = first_of states (output_from a)

module _ (states actions : ℕ) (owners arrows next views : List ℕ) where
  -- at box u, action a and s; at u and a; at u
  abbrev pub respect_at : ℕ → ℕ → ℕ → Option Place
  respect_at u a s = when true (when (moves_in states actions next views u a s) (some (respect u a s)))

  abbrev pub respect_from : ℕ → ℕ → Option Place
  respect_from u a = when (not (leads arrows (get_or owners a 0) u)) (first_of states (respect_at u a))

  abbrev pub respect_of : ℕ → Option Place
  respect_of u = first_of actions (respect_from u)

module _ (states actions : ℕ) (owners next views : List ℕ) where
  -- at box u, action a and s < t; at u, a and s; at u and a; at u
  abbrev pub step_at : ℕ → ℕ → ℕ → ℕ → Option Place
  step_at u a s t = when true (when (ltb s t) (when (tears_in states actions next views u (get_or owners a 0) a s t) (some (step u a s t))))

  abbrev pub step_from : ℕ → ℕ → ℕ → Option Place
  step_from u a s = when true (first_of states (step_at u a s))

  abbrev pub step_under : ℕ → ℕ → Option Place
  step_under u a = first_of states (step_from u a)

  abbrev pub step_of : ℕ → Option Place
  step_of u = first_of actions (step_under u)

module _ (m : Machine) (next outputs views : List ℕ) where
  pub output_is : first_output (machine_of m next outputs) every_state (view_of m views)
      ≡ first_of m.sizes.actions (output_of m.sizes.states m.sizes.actions m.owners outputs views)
  unfolding first_output leaks leaks_in alike_in
  output_is = refl

  pub step_is : first_step intransitive (machine_of m next outputs) every_state (view_of m views)
      ≡ first_of m.sizes.boxes (step_of m.sizes.states m.sizes.actions m.owners next views)
  unfolding first_step tears alike_too tears_in alike_in
  step_is = refl

pub respect_is : (m : Machine) (arrows next outputs views : List ℕ) →
    first_respect (machine_of m next outputs) every_state (leads arrows) (view_of m views)
    ≡ first_of m.sizes.boxes (respect_of m.sizes.states m.sizes.actions m.owners arrows next views)
unfolding first_respect moves moves_in alike_in
respect_is m arrows next outputs views = refl

-- next states have no say in output, and outputs have none in respect and step
pub output_free : (m : Machine) (next outputs views : List ℕ) →
    answer (first_output (machine_of m [] outputs) every_state (view_of m views)) ≡ answer (first_output (machine_of m next outputs) every_state (view_of m views))
output_free m next outputs views = ap answer (output_is m [] outputs views ∙ sym (output_is m next outputs views))

pub respect_free : (m : Model) (next outputs views : List ℕ) →
    answer (first_respect (machine_of m.machine next []) every_state (policy_of m) (view_of m.machine views))
    ≡ answer (first_respect (machine_of m.machine next outputs) every_state (policy_of m) (view_of m.machine views))
respect_free m next outputs views = ap answer (respect_is m.machine m.arrows next [] views ∙ sym (respect_is m.machine m.arrows next outputs views))

pub step_free : (m : Machine) (next outputs views : List ℕ) →
    answer (first_step intransitive (machine_of m next []) every_state (view_of m views))
    ≡ answer (first_step intransitive (machine_of m next outputs) every_state (view_of m views))
step_free m next outputs views = ap answer (step_is m next [] views ∙ sym (step_is m next outputs views))
