-- What the purge call answers, and what its buffer then holds.
use Rattle.std.specs.Prelude.{◌≡◌, Bool, true, List, ◌++◌, ℕ, ◌-◌, ◌<◌, eqb, ltb, leb, length, get_or, replicate, Result, Ok, Err}
use Rattle.laws.specs.Choice.{both, choose}
use Rattle.laws.specs.Range.{every}
use Rattle.noninterference.specs.Purge as kinds
use Rattle.model.specs.Arrows.{leads}
use Rattle.model.specs.Limits.{RUN_ACTIONS, BOXES}
use Rattle.model.specs.Denoted.{kind_of, owner_at, policy_of}
use Rattle.model.specs.Refused.{model_fits}
use Rattle.model.specs.Refusal.{refused_as}
use Rattle.model.specs.declared.Model.{Model}
use Rattle.model.specs.declared.refusal.Refusal.TheVariants.{Length, Rules, Range}
use Rattle.model.specs.declared.refusal.Refused.{Refused}
use Rattle.laws.specs.Sets.{pack}
use Rattle.model.specs.declared.Kind.{Kind}
use Rattle.model.specs.declared.Kind.TheVariants.{Plain, Intransitive}

-- each byte of the run names an action
unfoldable pub names_actions : ℕ → List ℕ → Bool
names_actions actions run = every (length run) λ i. ltb (get_or run i 0) actions

-- the position is a box's, and the run is one of the machine's and not too long
unfoldable pub asked : Model → ℕ → List ℕ → Bool
asked m position run =
    both (ltb position m.machine.sizes.boxes) (both (leb (length run) RUN_ACTIONS) (names_actions m.machine.sizes.actions run))

-- what holds of a model and a run that are purged
pub record Askable (m : Model) (position : ℕ) (run : List ℕ) : Type 0 where
  pub good : model_fits m ≡ true
  pub position_in : position < m.machine.sizes.boxes
  pub named : names_actions m.machine.sizes.actions run ≡ true

-- the sets that a source adds: none in a plain purge, else the boxes that interfere with it
abbrev pub Added : Kind → List ℕ → List ℕ → Type 0
Added Plain arrows sets = (w : ℕ) → get_or sets w 0 ≡ 0
Added Intransitive arrows sets = (w : ℕ) → w < BOXES → get_or sets w 0 ≡ pack (λ v. leads arrows v w) 0 BOXES

-- the actions of the run that are kept
unfoldable pub kept_of : Model → Kind → ℕ → List ℕ → List ℕ
kept_of m kind position run = kinds.purge (kinds.keeps (kind_of kind) (owner_at m.machine) (policy_of m) position) run

-- an answer, and the lent buffer after the call
pub record Purged : Type 0 where
  pub answer : Result ℕ Refused
  pub kept : List ℕ

abbrev pub purge_result : Result ℕ Refused → List ℕ → Purged
purge_result answer kept = record { answer = answer; kept = kept }

-- the kept actions first, 255 after them, and their count
abbrev pub written : List ℕ → ℕ → Purged
written xs n = purge_result (Ok (length xs)) (xs ++ replicate (n - length xs) 255)

-- the refusals, each with the buffer as it was
unfoldable pub purged_of : Model → Kind → ℕ → List ℕ → List ℕ → Purged
purged_of m kind position run kept =
    choose (eqb (length kept) (length run))
    (choose (model_fits m)
    (choose (asked m position run) (written (kept_of m kind position run) (length run)) (purge_result (Err (refused_as Range 0)) kept))
    (purge_result (Err (refused_as Rules 0)) kept))
    (purge_result (Err (refused_as Length 0)) kept)
