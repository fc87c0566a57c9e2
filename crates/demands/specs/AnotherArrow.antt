-- Another arrow never hurts: with more arrows drawn, accepted views stay accepted.
use Rattle.std.specs.Prelude.{◌≡◌, true, List, [], ◌∷◌, ◌++◌, ℕ, ◌<◌, ◌≤◌, length, get_or}
use Rattle.model.specs.Limits.{SHEET_BYTES}
use Rattle.model.specs.Denoted.{policy_of}
use Rattle.model.specs.declared.Model.{Model}
use Rattle.text.specs.Lines.{lines}
use Rattle.views.specs.Judgement.{Judgement, accepted}
use Rattle.zarpalume.specs.Words as words
use Rattle.demands.specs.Calls.{Bytes, Table}
use Rattle.demands.specs.Refusals.{ThreeTables, GoodModel}
use Rattle.demands.specs.Printed.{Drawn, Paper, Good, print}

-- the same machine, with every arrow of m between its boxes and perhaps more
pub record Redrawn (m m' : Model) : Type 0 where
  pub machine : m.machine ≡ m'.machine
  pub arrows : (v u : ℕ) → v < m.machine.sizes.boxes → u < m.machine.sizes.boxes → policy_of m v u ≡ true → policy_of m' v u ≡ true

pub record NeverHurts (judge : Model → Table → Table → Table → Judgement) : Type 0 where
  pub judged : (m m' : Model) (next outputs views : Table) → ThreeTables next outputs views → GoodModel m next → GoodModel m' next → Redrawn m m' →
      judge m next outputs views ≡ accepted → judge m' next outputs views ≡ accepted

-- a sheet with arrow lines added to its own
abbrev pub with_arrows : Paper → List Drawn → Paper
with_arrows p xs = record {
  states = p.states;
  actions = p.actions;
  start = p.start;
  boxes = p.boxes;
  acts = p.acts;
  steps = p.steps;
  arrows = p.arrows ++ xs;
  classes = p.classes;
}

abbrev pub Approved : Bytes → Type 0
Approved verdict = get_or (lines verdict) 0 [] ≡ words.views ++ (9 ∷ words.accepted)

pub record NeverHurtsOnBytes (verdict : Bytes → Bytes) : Type 0 where
  pub approved : (p : Paper) (xs : List Drawn) → Good p → Good (with_arrows p xs) →
      length (print p) ≤ SHEET_BYTES → length (print (with_arrows p xs)) ≤ SHEET_BYTES →
      Approved (verdict (print p)) → Approved (verdict (print (with_arrows p xs)))
