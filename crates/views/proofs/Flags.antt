-- What the code's flags say of one place, and what the answer is there.
-- Assumes nothing.
use mathlib.Core.Path.{◌≡◌, refl, sym, ap, ◌∙◌}
use mathlib.Core.Option.{Option, some, none}
use Rattle.laws.specs.Choice.{or_else}
use Rattle.noninterference.specs.Place.{Place, output, respect, step}
use Rattle.std.specs.Prelude.{Err}
use Rattle.views.specs.Judgement.{Judgement, accepted, answer}
use Rattle.views.specs.declared.Fault.{Fault}

-- ---- the answer of a search; y is the search x read off the tables
pub answer_none : {x y : Option Place} → x ≡ y → y ≡ none → accepted ≡ answer x
unfolding answer
answer_none p q = sym (ap answer (p ∙ q))

pub answer_place : {x y : Option Place} (p : Place) → x ≡ y → y ≡ some p → answer (some p) ≡ answer x
answer_place p e q = sym (ap answer (e ∙ q))

-- ---- the first of two searches that finds something decides
pub answer_accepted : (x : Option Place) → answer x ≡ accepted → x ≡ none
unfolding answer
answer_accepted none e = refl
answer_accepted (some (output a s t)) e = cc
answer_accepted (some (respect u a s)) e = cc
answer_accepted (some (step u a s t)) e = cc

pub first_decides : {f : Fault} (x y : Option Place) → Err f ≡ answer x → Err f ≡ answer (or_else x y)
unfolding answer or_else
first_decides none y e = cc
first_decides (some x) y e = e

pub first_passes : {v : Judgement} (x y : Option Place) → accepted ≡ answer x → v ≡ answer y → v ≡ answer (or_else x y)
unfolding or_else
first_passes x y e q = rw (answer_accepted x (sym e)) q
