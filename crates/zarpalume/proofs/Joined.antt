-- The lines of a verdict, one after the other.
-- Assumes nothing.
use mathlib.Core.Path.{◌≡◌}
use mathlib.Core.List.{List, ◌++◌, append_assoc}
use Prim.Native.Nat.{ℕ}
use Rattle.model.specs.declared.Model.{Model}
use Rattle.views.specs.Judgement.{Judgement, judgement_of}
use Rattle.needs.specs.Answered.{needed_of, list_of}
use Rattle.needs.specs.declared.Needs.{Needs}
use Rattle.zarpalume.specs.Lines.{line, ended, reach_words, views_line, need_lines, depth_lines, reach_line}
use Rattle.zarpalume.specs.Verdict.{blank, found, verdict_of}

grouped : (v n d r : List ℕ) → ((v ++ n) ++ d) ++ r ≡ v ++ (n ++ (d ++ r))
grouped v n d r = simp append_assoc

pub joined : (ids list depths v : List ℕ) (boxes : ℕ) (n : Needs) →
    ((v ++ need_lines ids list n.count) ++ depth_lines ids depths boxes) ++ (reach_words ++ ended n.reach)
    ≡ v ++ (need_lines ids list n.count ++ (depth_lines ids depths boxes ++ reach_line n.reach))
unfolding line
joined ids list depths v boxes n = grouped v (need_lines ids list n.count) (depth_lines ids depths boxes) (reach_words ++ ended n.reach)

pub verdict_is : (m : Model) (next outputs views list : List ℕ) (j : Judgement) (n : Needs) → j ≡ judgement_of m next outputs views →
    n ≡ found (needed_of m.machine next outputs blank) → list ≡ list_of m.machine next outputs blank →
    views_line m.ids m.machine.owners j
    ++ (need_lines m.ids list n.count ++ (depth_lines m.ids n.depths m.machine.sizes.boxes ++ reach_line n.reach))
    ≡ verdict_of m next outputs views
unfolding verdict_of
verdict_is m next outputs views list j n hj hn hl = rw (hj, hn, hl)
