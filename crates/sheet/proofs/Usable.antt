-- What a caller knows after a read that is not refused. Assumes nothing.
use Prim.Native.Nat.{ℕ}
use mathlib.Core.Path.{◌≡◌, refl, ap, ◌∙◌}
use mathlib.Core.List.{List}
use mathlib.Core.Bool.{Bool, true, false, cond, ◌&&◌}
use native.Mathlib.Omega.{arith}
use lib.ListN.{length}
use lib.Dec.{eqb}
use Rattle.model.specs.declared.Sizes.{Sizes}
use Rattle.model.specs.Limits.{NEXT_ENTRIES, OUTPUT_ENTRIES, VIEW_ENTRIES}
use Rattle.std.specs.Prelude.{Result, Ok, Err}
use Rattle.model.specs.declared.refusal.Refusal.TheVariants as why
use Rattle.model.specs.declared.refusal.Refused.{Refused}
use Rattle.model.specs.Refusal.{refused_as}
use Rattle.model.specs.declared.Model.{Model}
use Rattle.sheet.specs.Phases.{steps}
use Rattle.sheet.specs.Reading.{model_of, Parts, parts_as, drawn_as, Reading, model, refusal, sheet_text, Outcome, outcome, given, read}
use Rattle.sheet.proofs.Sound.{Sound, sound}

-- the call has one outcome: what its promise says of two results makes them the same
pub one_outcome : {s s' : Result Model Refused} {a a' b b' c c' : List ℕ} → outcome s a b c ≡ outcome s' a' b' c' → (s ≡ s') × (a ≡ a') × (b ≡ b') × (c ≡ c')
one_outcome h = (ap (λ (o : Outcome). o.answer) h, ap (λ (o : Outcome). o.next) h, ap (λ (o : Outcome). o.outputs) h, ap (λ (o : Outcome). o.views) h)

module _ {m : Model} {next outputs views : List ℕ} where
  refused_is_none : {A : Type 0} {r : Refused} {a b c : List ℕ} → outcome (Err r) a b c ≡ outcome (Ok m) next outputs views → A
  refused_is_none {A} {r} h =
      let q : Err r ≡ Ok m = ap (λ (o : Outcome). o.answer) h in
      let d : ◌≡◌ {A = ℕ} 0 1 = cc in absurd (omega arith)

  same_model : {y : Sizes} (p : Parts) → given (model y p) ≡ outcome (Ok m) next outputs views → model y p ≡ model m.machine.sizes (parts_as m.ids m.machine.owners (drawn_as (steps next outputs) m.arrows views))
  same_model {y} p h =
      let q : Ok (model_of y p) ≡ Ok m = ap (λ (o : Outcome). o.answer) h in
      let w : model_of y p ≡ m = cc in
      let a : y ≡ m.machine.sizes = ap (λ (x : Model). x.machine.sizes) w in
      let e : p.ids ≡ m.ids = ap (λ (x : Model). x.ids) w in
      let f : p.owners ≡ m.machine.owners = ap (λ (x : Model). x.machine.owners) w in
      let g : p.drawn.arrows ≡ m.arrows = ap (λ (x : Model). x.arrows) w in
      let k : p.drawn.steps.next ≡ next = ap (λ (o : Outcome). o.next) h in
      let n : p.drawn.steps.outputs ≡ outputs = ap (λ (o : Outcome). o.outputs) h in
      let v : p.drawn.views ≡ views = ap (λ (o : Outcome). o.views) h in
      rw (← a, ← e, ← f, ← g, ← k, ← n, ← v)

  -- the model and the tables of a read that is not refused keep to every rule for a model
  pub read_sound : (t next₀ outputs₀ views₀ : List ℕ) → read t next₀ outputs₀ views₀ ≡ outcome (Ok m) next outputs views → Sound m.machine.sizes (parts_as m.ids m.machine.owners (drawn_as (steps next outputs) m.arrows views))
  unfolding read
  read_sound t next₀ outputs₀ views₀ h = go (eqb (length next₀) NEXT_ENTRIES && eqb (length outputs₀) OUTPUT_ENTRIES && eqb (length views₀) VIEW_ENTRIES) (sheet_text t) refl h
    where
      go : (u : Bool) (r : Reading) → sheet_text t ≡ r → cond u (given r) (outcome (Err (refused_as why.Length 0)) next₀ outputs₀ views₀) ≡ outcome (Ok m) next outputs views
          → Sound m.machine.sizes (parts_as m.ids m.machine.owners (drawn_as (steps next outputs) m.arrows views))
      go false r q h = refused_is_none h
      go true (refusal e n) q h = refused_is_none h
      go true (model y p) q h = sound t (q ∙ same_model p h)
