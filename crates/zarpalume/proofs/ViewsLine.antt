-- What the writers put is the line that the judge's answer stands for.
-- Assumes nothing.
use mathlib.Core.Path.{◌≡◌, sym, ◌∙◌, ap}
use mathlib.Core.List.{List, [], ◌∷◌, ◌++◌}
use Prim.Native.Nat.{ℕ}
use lib.ListN.{get_or}
use Rattle.text.specs.Number.{decimal}
use Rattle.text.specs.Written.{Written}
use Rattle.text.proofs.Buffer.{same_as}
use Rattle.std.specs.Prelude.{Err}
use Rattle.model.specs.Refusal.{number_of}
use Rattle.model.specs.declared.refusal.Refused as refusals
use Rattle.views.specs.Judgement.{Judgement, accepted}
use Rattle.views.specs.declared.Fault.TheVariants.{Output, Respect, Step, Refused}
use Rattle.zarpalume.specs.Words as words
use Rattle.zarpalume.specs.Lines.{line, tabbed, ended, dashed, broken_respect, refused_line, views_line}
use Rattle.zarpalume.proofs.Writing.{pair_line, place_line}

-- the words before a place
abbrev before : List ℕ → List ℕ
before condition = words.views ++ (9 ∷ words.broken ++ (9 ∷ condition ++ (9 ∷ [])))

module _ (ids owners : List ℕ) {b b' : List ℕ} {n : ℕ} where
  pub line_accepted : (j : Judgement) → j ≡ accepted → Written b b' n (words.views ++ (9 ∷ words.accepted ++ (10 ∷ []))) → Written b b' n (views_line ids owners j)
  unfolding line
  line_accepted j e w = same_as (sym (ap (views_line ids owners) e)) w

  pub line_output : (j : Judgement) {a s t id o : ℕ} → j ≡ Err (Output a s t) → o ≡ get_or owners a 0 → id ≡ get_or ids o 0 →
      Written b b' n ((((before words.output ++ tabbed id) ++ tabbed a) ++ tabbed s) ++ ended t) → Written b b' n (views_line ids owners j)
  unfolding line
  line_output j {a} {s} {t} {id} e ho hi w =
      same_as (place_line (before words.output) (decimal id) (decimal a) (decimal s) (decimal t)
      ∙ ap (λ x. line (words.views ∷ words.broken ∷ words.output ∷ decimal x ∷ decimal a ∷ decimal s ∷ decimal t ∷ [])) (hi ∙ ap (λ x. get_or ids x 0) ho)
      ∙ sym (ap (views_line ids owners) e)) w

  pub line_respect : (j : Judgement) {u a s id : ℕ} → j ≡ Err (Respect u a s) → id ≡ get_or ids u 0 →
      Written b b' n ((((broken_respect ++ tabbed id) ++ tabbed a) ++ tabbed s) ++ dashed) → Written b b' n (views_line ids owners j)
  unfolding line
  line_respect j {u} {a} {s} {id} e hi w =
      same_as (place_line (before words.respect) (decimal id) (decimal a) (decimal s) words.dash
      ∙ ap (λ x. line (words.views ∷ words.broken ∷ words.respect ∷ decimal x ∷ decimal a ∷ decimal s ∷ words.dash ∷ [])) hi
      ∙ sym (ap (views_line ids owners) e)) w

  pub line_step : (j : Judgement) {u a s t id : ℕ} → j ≡ Err (Step u a s t) → id ≡ get_or ids u 0 →
      Written b b' n ((((before words.step ++ tabbed id) ++ tabbed a) ++ tabbed s) ++ ended t) → Written b b' n (views_line ids owners j)
  unfolding line
  line_step j {u} {a} {s} {t} {id} e hi w =
      same_as (place_line (before words.step) (decimal id) (decimal a) (decimal s) (decimal t)
      ∙ ap (λ x. line (words.views ∷ words.broken ∷ words.step ∷ decimal x ∷ decimal a ∷ decimal s ∷ decimal t ∷ [])) hi
      ∙ sym (ap (views_line ids owners) e)) w

  pub line_refused : (j : Judgement) {r : refusals.Refused} {number : ℕ} → j ≡ Err (Refused r) → number ≡ number_of r.refusal →
      Written b b' n (((words.refused ++ (9 ∷ [])) ++ tabbed number) ++ ended r.line) → Written b b' n (views_line ids owners j)
  line_refused j {r} {number} e k w =
      same_as (pair_line words.refused (decimal number) (decimal r.line)
      ∙ ap (λ x. refused_line x r.line) k ∙ sym (ap (views_line ids owners) e)) w
