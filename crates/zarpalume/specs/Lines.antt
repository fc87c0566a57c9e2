-- The lines of a verdict. Boxes are named by their ids, never by positions.
use Rattle.std.specs.Prelude.{ℕ, zero, suc, ◌+◌, ◌*◌, ◌<◌, List, [], ◌∷◌, ◌++◌, get_or, Ok, Err}
use Rattle.text.specs.Number.{decimal}
use Rattle.model.specs.Refusal.{number_of}
use Rattle.views.specs.Judgement.{Judgement}
use Rattle.views.specs.declared.Fault.TheVariants.{Output, Respect, Step, Refused}
use Rattle.zarpalume.specs.Words as words

-- fields parted by tabs, ended by LF
unfoldable pub line : List (List ℕ) → List ℕ
line [] = 10 ∷ []
line (f ∷ []) = f ++ (10 ∷ [])
line (f ∷ g ∷ fs) = f ++ (9 ∷ line (g ∷ fs))

-- a number with what ends its field, and the words that go before a place, as the writers put them
abbrev pub tabbed : ℕ → List ℕ
tabbed v = decimal v ++ (9 ∷ [])

abbrev pub ended : ℕ → List ℕ
ended v = decimal v ++ (10 ∷ [])

abbrev pub dashed : List ℕ
dashed = words.dash ++ (10 ∷ [])

abbrev pub broken_respect : List ℕ
broken_respect = words.views ++ (9 ∷ words.broken ++ (9 ∷ words.respect ++ (9 ∷ [])))

abbrev pub reach_words : List ℕ
reach_words = words.reach ++ (9 ∷ [])

abbrev pub id : List ℕ → ℕ → List ℕ
id ids u = decimal (get_or ids u 0)

-- `refused`, number, line
abbrev pub refused_line : ℕ → ℕ → List ℕ
refused_line number n = line (words.refused ∷ decimal number ∷ decimal n ∷ [])

-- `views`, then `accepted`, or `broken`, condition, box id, action, s and t; for output the action's box, for respect no t
abbrev pub views_line : List ℕ → List ℕ → Judgement → List ℕ
views_line ids owners (Ok _) = line (words.views ∷ words.accepted ∷ [])
views_line ids owners (Err (Output a s t)) =
    line (words.views ∷ words.broken ∷ words.output ∷ id ids (get_or owners a 0) ∷ decimal a ∷ decimal s ∷ decimal t ∷ [])
views_line ids owners (Err (Respect u a s)) =
    line (words.views ∷ words.broken ∷ words.respect ∷ id ids u ∷ decimal a ∷ decimal s ∷ words.dash ∷ [])
views_line ids owners (Err (Step u a s t)) =
    line (words.views ∷ words.broken ∷ words.step ∷ id ids u ∷ decimal a ∷ decimal s ∷ decimal t ∷ [])
views_line ids owners (Err (Refused r)) = refused_line (number_of r.refusal) r.line

-- each number fits the 32 bits that are written
abbrev pub Small : Judgement → Type 0
Small (Ok _) = Unit {0}
Small (Err (Output a s t)) = (a < 65536) × (s < 65536) × (t < 65536)
Small (Err (Respect u a s)) = (a < 65536) × (s < 65536)
Small (Err (Step u a s t)) = (a < 65536) × (s < 65536) × (t < 65536)
Small (Err (Refused r)) = r.line < 65536

-- `need`, source id, target id, for the first n pairs of a list
unfoldable pub need_lines : List ℕ → List ℕ → ℕ → List ℕ
need_lines ids list zero = []
need_lines ids list (suc n) =
    need_lines ids list n ++ line (words.need ∷ id ids (get_or list (2 * n) 0) ∷ id ids (get_or list (2 * n + 1) 0) ∷ [])

-- `depth`, id, depth, for the first n boxes
unfoldable pub depth_lines : List ℕ → List ℕ → ℕ → List ℕ
depth_lines ids depths zero = []
depth_lines ids depths (suc n) = depth_lines ids depths n ++ line (words.depth ∷ id ids n ∷ decimal (get_or depths n 0) ∷ [])

-- `reach`, the count of reachable states
abbrev pub reach_line : ℕ → List ℕ
reach_line n = line (words.reach ∷ decimal n ∷ [])
