-- The verdict on a sheet, and the host call.
use Rattle.std.specs.Prelude.{ℕ, ◌-◌, ◌<◌, ◌≤◌, List, ◌++◌, eqb, length, get_or, replicate, Result}
use Rattle.std.specs.Result.{result_unwrap_or}
use Rattle.laws.specs.Choice.{choose}
use Rattle.model.specs.Limits.{BOXES, PAIRS, LIST_ENTRIES, VERDICT_BYTES}
use Rattle.model.specs.declared.Model.{Model}
use Rattle.views.specs.Judgement.{judgement_of}
use Rattle.needs.specs.Answered.{needed_of, list_of}
use Rattle.needs.specs.declared.Needs.{Needs}
use Rattle.model.specs.Refusal.{number_of}
use Rattle.model.specs.declared.refusal.Refused.{Refused}
use Rattle.sheet.specs.Reading.{Reading, model_of, model, refusal, sheet_text}
use Rattle.zarpalume.specs.Lines.{refused_line, views_line, need_lines, depth_lines, reach_line}

-- the list that the needed-arrow call is lent
abbrev pub blank : List ℕ
blank = replicate LIST_ENTRIES 0

-- what was found, and nothing where the call was refused
abbrev pub found : Result Needs Refused → Needs
found answer = result_unwrap_or answer (record { count = 0; reach = 0; depths = replicate BOXES 0 })

-- few enough pairs, and numbers that fit the 32 bits that are written
pub record Few (n : Needs) : Type 0 where
  pub pairs_few : n.count ≤ PAIRS
  pub reach_small : n.reach < 65536
  pub depth_small : (u : ℕ) → get_or n.depths u 0 < 65536

-- views, needed arrows, depths and reach of a model with its tables
unfoldable pub verdict_of : Model → List ℕ → List ℕ → List ℕ → List ℕ
verdict_of m next outputs views =
    let needs = found (needed_of m.machine next outputs blank) in
    views_line m.ids m.machine.owners (judgement_of m next outputs views)
    ++ (need_lines m.ids (list_of m.machine next outputs blank) needs.count
    ++ (depth_lines m.ids needs.depths m.machine.sizes.boxes ++ reach_line needs.reach))

-- the line of a refusal
abbrev pub refusal_of : Refused → List ℕ
refusal_of r = refused_line (number_of r.refusal) r.line

-- its line number fits
abbrev pub LineSmall : Refused → Type 0
LineSmall r = r.line < 65536

-- one line for a refusal; else the verdict on the model
abbrev pub said : Reading → List ℕ
said (refusal e line) = refused_line (number_of e) line
said (model z p) =
    verdict_of (model_of z p) p.drawn.steps.next p.drawn.steps.outputs p.drawn.views

unfoldable pub verdict : List ℕ → List ℕ
verdict sheet = said (sheet_text sheet)

-- the length that the call returns, and the buffer then
pub record Call : Type 0 where
  pub count : ℕ
  pub bytes : List ℕ

abbrev pub call : ℕ → List ℕ → Call
call n b = record { count = n; bytes = b }

-- the verdict, and zeros after it; a buffer of any other length: 0, and no change
unfoldable pub call_of : List ℕ → List ℕ → Call
call_of sheet buffer =
    choose (eqb (length buffer) VERDICT_BYTES)
    (call (length (verdict sheet)) (verdict sheet ++ replicate (VERDICT_BYTES - length (verdict sheet)) 0)) (call 0 buffer)
