-- The public calls as functions of what they are handed: the answer, and every lent buffer after the call.
use Rattle.std.specs.Prelude.{List, ℕ, Result}
use Rattle.model.specs.declared.Machine.{Machine}
use Rattle.model.specs.declared.Model.{Model}
use Rattle.sheet.specs.Reading as sheets
use Rattle.sheet.specs.Label.{Label}
use Rattle.model.specs.declared.refusal.Refused.{Refused}
use Rattle.views.specs.Judgement.{Judgement}
use Rattle.needs.specs.declared.Needs.{Needs}
use Rattle.model.specs.declared.Kind.{Kind}
use Rattle.purge.specs.Purged.{Purged}
use Rattle.reach.specs.declared.Set.{Set}
use Rattle.zarpalume.specs.Verdict.{Call}

abbrev pub Bytes : Type 0
Bytes = List ℕ

abbrev pub Table : Type 0
Table = List ℕ

-- text and tables; text and position; model and tables; machine, tables and list; model, kind, position, run and buffer; machine and table; text and buffer
pub record Calls : Type 0 where
  pub read : Bytes → Table → Table → Table → sheets.Outcome
  pub label : Bytes → ℕ → Result Label Refused
  pub judge : Model → Table → Table → Table → Judgement
  pub needed : Machine → Table → Table → Table → Result Needs Refused × Table
  pub purged : Model → Kind → ℕ → Bytes → Bytes → Purged
  pub reached : Machine → Table → Result Set Refused
  pub verdict : Bytes → Bytes → Call
