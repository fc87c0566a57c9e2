-- The three demands: what the calls must answer, whoever answers. Everything that is named here stands in `specs/`.
use Rattle.model.specs.declared.refusal.Refusal as named
use Rattle.model.specs.Refusal.{number_of, refused_as}
use Rattle.std.specs.Prelude.{Result, Ok, Err}
use Rattle.model.specs.declared.refusal.Refused.{Refused}
use Rattle.std.specs.Prelude.{◌≡◌, ◌↔◌, [], ◌∷◌, ◌++◌, ℕ, ◌<◌, length, get_or}
use Rattle.std.proofs.Math.Option.{some}
use Rattle.noninterference.specs.Purge.{intransitive}
use Rattle.noninterference.specs.Secure.{Secure}
use Rattle.noninterference.specs.Conditions.{Conditions, ByView}
use Rattle.noninterference.specs.Place.{Place, FirstBroken, OfAny}
use Rattle.model.specs.Limits.{BOXES, NEXT_ENTRIES, VERDICT_BYTES}
use Rattle.model.specs.Denoted.{machine_of, policy_of, view_of}
use Rattle.model.specs.Good.{GoodMachine, GoodTable, GoodDrawing}
use Rattle.model.specs.declared.Machine.{Machine}
use Rattle.model.specs.declared.Model.{Model}
use Rattle.text.specs.Lines.{lines}
use Rattle.sheet.specs.Meaning.{RefusedText}
use Rattle.sheet.specs.Reading.{model_of, Reading, model, refusal, sheet_text, outcome}
use Rattle.views.specs.Judgement as judging
use Rattle.views.specs.Judgement.{Judgement, answer}
use Rattle.views.specs.declared.Fault.TheVariants as faults
use Rattle.needs.specs.Demand.{Demand}
use Rattle.needs.specs.declared.Needs.{Needs}
use Rattle.purge.specs.Purged.{purge_result}
use Rattle.model.specs.declared.Kind.{Kind}
use Rattle.zarpalume.specs.Words as words
use Rattle.zarpalume.specs.Lines.{refused_line}
use Rattle.zarpalume.specs.Verdict.{call}
use Rattle.demands.specs.Calls.{Bytes, Table, Calls}
use Rattle.demands.specs.Refusals.{ThreeTables, TablesAndList, GoodModel, Question, Refusal, TableRefusal, TextRefusal, LabelRefusal, left}
use Rattle.demands.specs.Told.{told}

-- Demand 1: bad input, and no other, gets its refusal and line, and the lent buffers are as said
pub record Demand1 (calls : Calls) : Type 0 where
  pub read : (t : Bytes) (next outputs views : Table) (n : named.Refusal) (l : ℕ) →
      TextRefusal (ThreeTables next outputs views) t n l ↔ ((calls.read t next outputs views).answer ≡ Err (refused_as n l))
  pub read_then : (t : Bytes) (next outputs views : Table) (n : named.Refusal) (l : ℕ) → (calls.read t next outputs views).answer ≡ Err (refused_as n l) →
      calls.read t next outputs views ≡ outcome (Err (refused_as n l)) (left (number_of n) next) (left (number_of n) outputs) (left (number_of n) views)
  pub label : (t : Bytes) (position : ℕ) (n : named.Refusal) (l : ℕ) →
      LabelRefusal t position n l ↔ (calls.label t position ≡ Err (refused_as n l))
  pub judge : (m : Model) (next outputs views : Table) (n : named.Refusal) (l : ℕ) →
      TableRefusal (ThreeTables next outputs views) (GoodModel m next) n l ↔ (calls.judge m next outputs views ≡ Err (faults.Refused (refused_as n l)))
  pub needed : (m : Machine) (next outputs list : Table) (n : named.Refusal) (l : ℕ) →
      TableRefusal (TablesAndList next outputs list) (GoodTable m next) n l ↔ ((calls.needed m next outputs list).0 ≡ Err (refused_as n l))
  pub needed_then : (m : Machine) (next outputs list : Table) (n : named.Refusal) (l : ℕ) → (calls.needed m next outputs list).0 ≡ Err (refused_as n l) →
      calls.needed m next outputs list ≡ (Err (refused_as n l), left (number_of n) list)
  pub purged : (m : Model) (kind : Kind) (position : ℕ) (run kept : Bytes) (n : named.Refusal) (l : ℕ) →
      Refusal (length kept ≡ length run) (GoodMachine m.machine × GoodDrawing m) (Question m position run) n l ↔
      ((calls.purged m kind position run kept).answer ≡ Err (refused_as n l))
  pub purged_then : (m : Model) (kind : Kind) (position : ℕ) (run kept : Bytes) (n : named.Refusal) (l : ℕ) →
      (calls.purged m kind position run kept).answer ≡ Err (refused_as n l) → calls.purged m kind position run kept ≡ purge_result (Err (refused_as n l)) kept
  pub reached : (m : Machine) (next : Table) (n : named.Refusal) (l : ℕ) →
      TableRefusal (length next ≡ NEXT_ENTRIES) (GoodTable m next) n l ↔ (calls.reached m next ≡ Err (refused_as n l))
  pub verdict : (t buffer : Bytes) → ¬ (length buffer ≡ VERDICT_BYTES) → calls.verdict t buffer ≡ call 0 buffer

-- Demand 2: views are accepted exactly where the three conditions hold for every state, else the first broken place is named; accepted means secure
pub record Demand2 (judge : Model → Table → Table → Table → Judgement) : Type 0 where
  pub accepted : (m : Model) (next outputs views : Table) → ThreeTables next outputs views → GoodModel m next →
      (judge m next outputs views ≡ judging.accepted) ↔
      Conditions intransitive (machine_of m.machine next outputs) (λ s. s < m.machine.sizes.states) (policy_of m) (ByView (view_of m.machine views))
  pub broken : (m : Model) (next outputs views : Table) → ThreeTables next outputs views → GoodModel m next →
      ¬ (judge m next outputs views ≡ judging.accepted) →
      (p : Place) × (judge m next outputs views ≡ answer (some p))
      × FirstBroken intransitive (machine_of m.machine next outputs) (λ s. s < m.machine.sizes.states) (policy_of m) (view_of m.machine views) OfAny p
  pub meaning : (m : Model) (next outputs views : Table) → ThreeTables next outputs views → GoodModel m next →
      judge m next outputs views ≡ judging.accepted → Secure intransitive (machine_of m.machine next outputs) (policy_of m)

-- Demand 3: the needed list, depths and reach are as defined; no arrow, id or view is handed in
pub record Demand3 (needed : Machine → Table → Table → Table → Result Needs Refused × Table) : Type 0 where
  pub found : (m : Machine) (next outputs list : Table) → TablesAndList next outputs list → GoodTable m next →
      (needs : Needs) × ((needed m next outputs list).0 ≡ Ok needs) × (length needs.depths ≡ BOXES)
      × Demand (machine_of m next outputs) needs.count needs.reach needs.depths (needed m next outputs list).1

-- ---- on the verdict's bytes
-- the sheet says a model, and its views meet the conditions
abbrev pub Meets : Reading → Type 0
Meets (refusal e line) = ⊥
Meets (model z p) =
    Conditions intransitive (machine_of (model_of z p).machine p.drawn.steps.next p.drawn.steps.outputs)
    (λ s. s < z.states) (policy_of (model_of z p)) (ByView (view_of (model_of z p).machine p.drawn.views))

-- a refusal is its line; the first line is `views`, tab, `accepted` exactly where the views meet the conditions; and equal bytes tell the same
pub record DemandOnBytes (verdict : Bytes → Bytes) : Type 0 where
  pub refused : (t : Bytes) (n : named.Refusal) (l : ℕ) → RefusedText t n l → verdict t ≡ refused_line (number_of n) l
  pub accepted : (t : Bytes) → (get_or (lines (verdict t)) 0 [] ≡ words.views ++ (9 ∷ words.accepted)) ↔ Meets (sheet_text t)
  pub same : (t t' : Bytes) → verdict t ≡ verdict t' → told (sheet_text t) ≡ told (sheet_text t')
