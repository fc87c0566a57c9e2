-- The cases P1 to P12 and those that came with requests, one table: a model with its tables, and what is claimed of it.
use Rattle.std.specs.Prelude.{List, [], ◌∷◌, ℕ}
use Rattle.model.specs.Limits.{ACTIONS, BOXES}
use Rattle.model.specs.Made.{sizes_from, machine_from, model_from}
use Rattle.model.specs.declared.Model.{Model}
use Rattle.register.specs.Tables.{full, by_state, by_box, draws}
use Rattle.register.specs.Register as register

-- a verdict on views: accepted, or the broken condition with box id, action, s and t
pub data Views : Type 0 where
  accepted : Views
  output : ℕ → ℕ → ℕ → ℕ → Views
  respect : ℕ → ℕ → ℕ → Views
  step : ℕ → ℕ → ℕ → ℕ → Views

-- what is claimed of a model: the verdict on its views; its needed arrows, by ids; its boxes' depths; how many states are reachable;
-- what an intransitive purge of a run keeps for the box with an id
pub data Claim : Type 0 where
  judged : Views → Claim
  needed : List (ℕ × ℕ) → Claim
  depths : List ℕ → Claim
  reach : ℕ → Claim
  purged : List ℕ → ℕ → List ℕ → Claim

-- the tables are given within the model, and are zero beyond it
pub record Case : Type 0 where
  pub model : Model
  pub next : List ℕ
  pub outputs : List ℕ
  pub views : List ℕ
  pub claims : List Claim

-- ---- the models: the register machine, and three small ones with boxes A and B of ids 1 and 2
abbrev other_sums : List ℕ
other_sums = 0 ∷ 1 ∷ 1 ∷ 2 ∷ 2 ∷ 3 ∷ 3 ∷ 3 ∷ 3 ∷ []

abbrev fewer_arrows : Model
fewer_arrows = model_from register.machine (register.model).ids (draws 4 ((0, 2) ∷ (1, 2) ∷ []))

abbrev more_arrows : Model
more_arrows = model_from register.machine (register.model).ids (draws 4 ((0, 3) ∷ (0, 2) ∷ (1, 2) ∷ (2, 3) ∷ []))

abbrev other_views : List ℕ
other_views = by_box (register.view_u ∷ register.view_v ∷ register.view_u ∷ register.view_x ∷ [])

abbrev one : Model
one = model_from (machine_from (sizes_from 1 1 1 0) (full ACTIONS [])) (full BOXES (1 ∷ [])) (draws 1 [])

abbrev two : ℕ → List (ℕ × ℕ) → Model
two states arrows = model_from (machine_from (sizes_from states 2 2 0) (full ACTIONS (0 ∷ 1 ∷ []))) (full BOXES (1 ∷ 2 ∷ [])) (draws 2 arrows)

-- ---- rows: the model, its next states, outputs and views; then what is claimed
abbrev case : Model → List ℕ → List ℕ → List ℕ → List Claim → Case
case model next outputs views claims = record { model = model; next = next; outputs = outputs; views = views; claims = claims }

abbrev of_register : List Claim → Case
of_register = case register.model register.next_entries register.output_entries register.view_entries

abbrev pub p1 : Case
p1 = of_register (judged accepted ∷ [])

abbrev pub p2 : Case
p2 = of_register (needed ((10, 40) ∷ (20, 40) ∷ (30, 40) ∷ []) ∷ [])

abbrev pub p3 : Case
p3 = of_register (depths (0 ∷ 0 ∷ 0 ∷ 1 ∷ []) ∷ reach 9 ∷ [])

-- X outputs u + v instead
abbrev pub p4 : Case
p4 =
    case register.model register.next_entries (by_state (register.output_rows other_sums) 9) register.view_entries
    (judged (output 40 3 0 1) ∷ [])

-- the arrow 30 to 40 gone
abbrev pub p5 : Case
p5 = case fewer_arrows register.next_entries register.output_entries register.view_entries (judged (respect 40 2 1) ∷ [])

-- W's view replaced by U's
abbrev pub p6 : Case
p6 = case register.model register.next_entries register.output_entries other_views (judged (step 40 2 0 3) ∷ [])

abbrev pub p7 : Case
p7 = of_register (purged (0 ∷ 2 ∷ []) 40 (0 ∷ 2 ∷ []) ∷ [])

abbrev pub p8 : Case
p8 = of_register (purged (2 ∷ 0 ∷ []) 40 (2 ∷ []) ∷ [])

abbrev pub p9 : Case
p9 = of_register (purged [] 40 [] ∷ [])

-- one state, action and box
abbrev pub p10 : Case
p10 = case one (0 ∷ []) (0 ∷ []) (0 ∷ []) (judged accepted ∷ needed [] ∷ depths (0 ∷ []) ∷ [])

-- the spare state
abbrev pub p11 : Case
p11 =
    case (two 2 []) (by_state ((0 ∷ 0 ∷ []) ∷ (0 ∷ 1 ∷ []) ∷ []) 2) (by_state ((0 ∷ 0 ∷ []) ∷ (0 ∷ 1 ∷ []) ∷ []) 2)
    (by_box ((0 ∷ 0 ∷ []) ∷ (0 ∷ 1 ∷ []) ∷ [])) (judged (respect 2 0 1) ∷ needed [] ∷ [])

-- the chain
abbrev pub p12 : Case
p12 =
    case (two 4 []) (by_state ((1 ∷ 1 ∷ 2 ∷ 3 ∷ []) ∷ (0 ∷ 2 ∷ 3 ∷ 3 ∷ []) ∷ []) 4) (by_state ([] ∷ (0 ∷ 0 ∷ 0 ∷ 1 ∷ []) ∷ []) 4)
    [] (needed ((1, 2) ∷ []) ∷ depths (0 ∷ 2 ∷ []) ∷ reach 4 ∷ [])

-- P1 with the arrow 10 to 40 more
abbrev pub p1_more : Case
p1_more = case more_arrows register.next_entries register.output_entries register.view_entries (judged accepted ∷ [])

abbrev pub cases : List Case
cases = p1 ∷ p2 ∷ p3 ∷ p4 ∷ p5 ∷ p6 ∷ p7 ∷ p8 ∷ p9 ∷ p10 ∷ p11 ∷ p12 ∷ p1_more ∷ []
