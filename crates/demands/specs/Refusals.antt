-- What is refused, with which number and line.
use Rattle.model.specs.declared.refusal.Refusal as named
use Rattle.model.specs.declared.refusal.Refusal.TheVariants as why
use Rattle.std.specs.Prelude.{◌≡◌, List, ℕ, ◌<◌, ◌≤◌, eqb, length, get_or, replicate}
use Rattle.laws.specs.Choice.{choose}
use Rattle.model.specs.Limits.{NEXT_ENTRIES, OUTPUT_ENTRIES, VIEW_ENTRIES, LIST_ENTRIES, RUN_ACTIONS}
use Rattle.model.specs.Good.{GoodTable, GoodDrawing}
use Rattle.model.specs.declared.Sizes.{Sizes}
use Rattle.model.specs.declared.Model.{Model}
use Rattle.sheet.specs.Meaning.{RefusedText}
use Rattle.sheet.specs.Reading.{Parts, model, sheet_text}
use Rattle.demands.specs.Calls.{Bytes, Table}

-- ---- what is good
abbrev pub ThreeTables : Table → Table → Table → Type 0
ThreeTables next outputs views = (length next ≡ NEXT_ENTRIES) × (length outputs ≡ OUTPUT_ENTRIES) × (length views ≡ VIEW_ENTRIES)

abbrev pub TablesAndList : Table → Table → Table → Type 0
TablesAndList next outputs list = (length next ≡ NEXT_ENTRIES) × (length outputs ≡ OUTPUT_ENTRIES) × (length list ≡ LIST_ENTRIES)

abbrev pub GoodModel : Model → Table → Type 0
GoodModel m next = GoodTable m.machine next × GoodDrawing m

-- a box of the model, and a run of its actions that is not too long
pub record Question (m : Model) (position : ℕ) (run : Bytes) : Type 0 where
  pub box_in : position < m.machine.sizes.boxes
  pub short : length run ≤ RUN_ACTIONS
  pub named : (i : ℕ) → i < length run → get_or run i 0 < m.machine.sizes.actions

-- ---- what is not: a lent buffer's length, then the model, then what is asked of it
pub data Refusal (lengths good asked : Type 0) : named.Refusal → ℕ → Type 0 where
  ten : ¬ lengths → Refusal lengths good asked why.Length 0
  twelve : lengths → ¬ good → Refusal lengths good asked why.Rules 0
  thirteen : lengths → good → ¬ asked → Refusal lengths good asked why.Range 0

-- a call of which nothing is asked but what it is handed
abbrev pub TableRefusal : Type 0 → Type 0 → named.Refusal → ℕ → Type 0
TableRefusal lengths good n l = Refusal lengths good (Unit {0}) n l

-- a lent buffer's length, then the text, as the table of refusals says
pub data TextRefusal (lengths : Type 0) (t : Bytes) : named.Refusal → ℕ → Type 0 where
  ten : ¬ lengths → TextRefusal lengths t why.Length 0
  text : {n : named.Refusal} {l : ℕ} → lengths → RefusedText t n l → TextRefusal lengths t n l

-- the text, then the position
pub data LabelRefusal (t : Bytes) (position : ℕ) : named.Refusal → ℕ → Type 0 where
  text : {n : named.Refusal} {l : ℕ} → RefusedText t n l → LabelRefusal t position n l
  thirteen : (z : Sizes) (p : Parts) → sheet_text t ≡ model z p → z.boxes ≤ position →
      LabelRefusal t position why.Range 0

-- 10 leaves a lent buffer as it was, any other refusal makes it zero
unfoldable pub left : ℕ → List ℕ → List ℕ
left number buffer = choose (eqb number 10) buffer (replicate (length buffer) 0)
