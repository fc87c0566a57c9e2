-- The numbers that `listed` gives fix the answer: no two answers of the judge have the same.
-- Assumes nothing.
use mathlib.Core.Path.{◌≡◌, refl, sym, ap, ◌∙◌}
use mathlib.Core.List.{List, [], ◌∷◌}
use lib.ListN.{get_or}
use mathlib.Core.Option.{Option, none, some}
use Prim.Native.Nat.{ℕ}
use lib.Dec.{ltb}
use Rattle.laws.specs.Choice.{choose}
use Rattle.model.specs.declared.Machine.{Machine}
use Rattle.model.specs.declared.Model.{Model}
use Rattle.views.specs.Listed as listing
use Rattle.views.specs.Listed.{Listed, Condition, listed}
use Rattle.std.specs.Prelude.{Ok, Err}
use Rattle.model.specs.Refusal.{number_of, refused_as}
use Rattle.model.specs.declared.refusal.Refusal.{Refusal}
use Rattle.model.specs.declared.refusal.Refusal.TheVariants.{Text, Record, Fields, Number, Size, Order, SameId, UnknownId, Label, Length, Ended, Rules, Range, UsedId, NoRoom, NothingToUndo, LongHistory, Arrow}
use Rattle.views.specs.Judgement.{Judgement, accepted, judgement_of}
use Rattle.views.specs.declared.Fault.TheVariants.{Output, Respect, Step, Refused}

-- the refusal that has a number
numbered : ℕ → Refusal
numbered n =
    get_or
    (Text ∷ Text ∷ Record ∷ Fields ∷ Number ∷ Size ∷ Order ∷ SameId ∷ UnknownId ∷ Label ∷ Length ∷ Ended ∷ Rules ∷ Range ∷ UsedId ∷ NoRoom
    ∷ NothingToUndo ∷ LongHistory ∷ Arrow ∷ [])
    n Text

-- the answer that such numbers are of
by_condition : Option Condition → Listed → Judgement
by_condition none r = choose (ltb 0 r.refusal) (Err (Refused (refused_as (numbered r.refusal) r.line))) accepted
by_condition (some listing.Condition.output) r = Err (Output r.action r.s r.t)
by_condition (some listing.Condition.respect) r = Err (Respect r.position r.action r.s)
by_condition (some listing.Condition.step) r = Err (Step r.position r.action r.s r.t)

of : Listed → Judgement
of r = by_condition r.broken r

of_number : (r : Refusal) (line : ℕ) → by_condition none (record { refusal = number_of r; line = line; broken = none; position = 0; action = 0; s = 0; t = 0 }) ≡ Err (Refused (refused_as r line))
unfolding by_condition choose numbered
of_number Text line = refl
of_number Record line = refl
of_number Fields line = refl
of_number Number line = refl
of_number Size line = refl
of_number Order line = refl
of_number SameId line = refl
of_number UnknownId line = refl
of_number Label line = refl
of_number Length line = refl
of_number Ended line = refl
of_number Rules line = refl
of_number Range line = refl
of_number UsedId line = refl
of_number NoRoom line = refl
of_number NothingToUndo line = refl
of_number LongHistory line = refl
of_number Arrow line = refl

of_listed : (m : Machine) (v : Judgement) → of (listed m v) ≡ v
unfolding of by_condition choose
of_listed m (Ok _) = refl
of_listed m (Err (Output a s t)) = refl
of_listed m (Err (Respect u a s)) = refl
of_listed m (Err (Step u a s t)) = refl
of_listed m (Err (Refused r)) = of_number r.refusal r.line

-- an answer that has the numbers of the judge's is the judge's
pub listed_fixes : (m : Model) (next outputs views : List ℕ) (v : Judgement) →
    listed m.machine v ≡ listed m.machine (judgement_of m next outputs views) → v ≡ judgement_of m next outputs views
listed_fixes m next outputs views v e =
    sym (of_listed m.machine v) ∙ ap of e ∙ of_listed m.machine (judgement_of m next outputs views)
