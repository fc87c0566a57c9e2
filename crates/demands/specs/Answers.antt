-- Good input: what the calls answer beside the three demands. With these every answer is fixed.
use Rattle.std.specs.Prelude.{◌≡◌, ◌++◌, ℕ, ◌-◌, ◌<◌, ltb, length, replicate}
use Rattle.laws.specs.Choice.{both}
use Rattle.laws.specs.Range.{tabulate}
use Rattle.noninterference.specs.Reached as noninterference
use Rattle.model.specs.Limits.{STATES, NEXT_ENTRIES, VERDICT_BYTES}
use Rattle.model.specs.Good.{GoodMachine, GoodTable, GoodDrawing}
use Rattle.model.specs.declared.Sizes.{Sizes}
use Rattle.model.specs.declared.Machine.{Machine}
use Rattle.model.specs.declared.Model.{Model}
use Rattle.sheet.specs.Reading.{Parts, model, sheet_text, given}
use Rattle.std.specs.Prelude.{Ok}
use Rattle.sheet.specs.Label.{label_place, label_of}
use Rattle.purge.specs.Purged.{kept_of, written}
use Rattle.model.specs.declared.Kind.{Kind}
use Rattle.reach.specs.Explored.{moving}
use Rattle.reach.specs.Set.{of_flags}
use Rattle.zarpalume.specs.Verdict as verdicts
use Rattle.zarpalume.specs.Verdict.{call}
use Rattle.demands.specs.Calls.{Bytes, Table, Calls}
use Rattle.demands.specs.Refusals.{ThreeTables, Question}

-- the sheet's model; the label's part of the text; the kept actions of a run; the reachable states; the verdict, and zeros after it
pub record Answers (calls : Calls) : Type 0 where
  pub read : (t : Bytes) (next outputs views : Table) (z : Sizes) (p : Parts) → ThreeTables next outputs views →
      sheet_text t ≡ model z p → calls.read t next outputs views ≡ given (model z p)
  pub label : (t : Bytes) (position : ℕ) (z : Sizes) (p : Parts) →
      sheet_text t ≡ model z p → position < z.boxes → calls.label t position ≡ label_of t (Ok (label_place t position))
  pub purged : (m : Model) (kind : Kind) (position : ℕ) (run kept : Bytes) →
      length kept ≡ length run → GoodMachine m.machine × GoodDrawing m → Question m position run →
      calls.purged m kind position run kept ≡ written (kept_of m kind position run) (length run)
  pub reached : (m : Machine) (next : Table) → length next ≡ NEXT_ENTRIES → GoodTable m next →
      calls.reached m next ≡ Ok (of_flags (tabulate STATES λ s. both (ltb s m.sizes.states) (noninterference.reached (moving m next) s)))
  pub verdict : (t buffer : Bytes) → length buffer ≡ VERDICT_BYTES →
      calls.verdict t buffer ≡ call (length (verdicts.verdict t)) (verdicts.verdict t ++ replicate (VERDICT_BYTES - length (verdicts.verdict t)) 0)

-- two ways of answering that never differ
pub record Alike (calls others : Calls) : Type 0 where
  pub read : (t : Bytes) (next outputs views : Table) → calls.read t next outputs views ≡ others.read t next outputs views
  pub label : (t : Bytes) (position : ℕ) → calls.label t position ≡ others.label t position
  pub judge : (m : Model) (next outputs views : Table) → calls.judge m next outputs views ≡ others.judge m next outputs views
  pub needed : (m : Machine) (next outputs list : Table) → calls.needed m next outputs list ≡ others.needed m next outputs list
  pub purged : (m : Model) (kind : Kind) (position : ℕ) (run kept : Bytes) → calls.purged m kind position run kept ≡ others.purged m kind position run kept
  pub reached : (m : Machine) (next : Table) → calls.reached m next ≡ others.reached m next
  pub verdict : (t buffer : Bytes) → calls.verdict t buffer ≡ others.verdict t buffer
