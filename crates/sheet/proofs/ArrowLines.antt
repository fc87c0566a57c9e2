-- What a loop over `flow` and `both` lines knows. Assumes nothing.
use Rattle.model.specs.declared.refusal.Refusal.{Refusal}
use Rattle.std.specs.Prelude.{Ok, Err, Option, Some, None}
use Prim.Native.Nat.{ℕ, ◌+◌, ◌-◌, ◌<◌, ◌≤◌}
use mathlib.Core.Path.{◌≡◌, refl, ap, ◌∙◌}
use mathlib.Core.List.{List, ◌∷◌}
use mathlib.Core.Logic.{inl, inr}
use native.Mathlib.Omega.{arith}
use native.Mathlib.Numerals.{add-one}
use lib.ListN.{length, take, drop}
use Rattle.model.specs.Limits.{BOXES}
use Rattle.model.specs.Arrows.{drawn}
use Rattle.model.proofs.Arrows.{drawn_length}
use Rattle.text.specs.Lines.{lines, end_of, line_at, Ended}
use Rattle.text.proofs.Parts.{Found, line_next, no_lines}
use Rattle.model.specs.declared.refusal.Refused.{Refused}
use Rattle.sheet.specs.declared.Arrows.{Arrows}
use Rattle.sheet.specs.declared.Arrows.TheVariants.{One, Two}
use Rattle.sheet.specs.declared.Taken.{Taken}
use Rattle.sheet.specs.Records.{flow_line, on_flow}
use Rattle.sheet.proofs.Taking.{TookFrom, took_from, StoppedFrom, ended, bad as stop, stopped_from}
use Rattle.sheet.proofs.Good.{flow_good}
use Rattle.sheet.specs.Phases.{Got, got, refused, flows, taken_by}

-- what is left at the place, with the arrows so far, gives what the whole run gives
pub record Flowing (t ids : List ℕ) (all : Got (List ℕ)) (arrows : List ℕ) (at n : ℕ) : Type 0 where
  pub closed : Ended t
  pub few : n ≤ at + 1
  pub room : length arrows ≡ BOXES
  pub rest : flows ids arrows (lines (drop at t)) n ≡ all

module _ {t ids : List ℕ} {all : Got (List ℕ)} {arrows : List ℕ} {at n : ℕ} (p : Flowing t ids all arrows at n) where
  pub over : length t ≤ at → got arrows (lines (drop at t)) n ≡ all
  unfolding flows
  over h = rw (no_lines t at h) (rw (no_lines t at h) at p.rest)

  module _ {start end next : ℕ} (q : Found t at start end next) where
    abbrev this : List ℕ
    this = take (end - start) (drop start t)

    this_line : lines (drop at t) ≡ this ∷ lines (drop next t)
    this_line = rw (q.start_is, q.end_is, q.next_is) (line_next p.closed at q.within)

    step : on_flow (flow_line ids this)
        (λ v u. flows ids (drawn v u arrows) (lines (drop next t)) (n + 1))
        (λ v u. flows ids (drawn u v (drawn v u arrows)) (lines (drop next t)) (n + 1))
        (λ e. refused e n)
        (got arrows (lines (drop at t)) n)
        ≡ all
    unfolding flows
    step = rw (add-one n, this_line) (rw this_line at p.rest)

    pub line_fits : n ≤ length t
    line_fits = omega (arith, q.within, p.few)

    pub other : flow_line ids this ≡ Ok None → got arrows (lines (drop at t)) n ≡ all
    other e = (rw e at step)

    pub bad : (x : Refusal) → flow_line ids this ≡ Err x → refused x n ≡ all
    bad x e = (rw e at step)

    pub one : (v u : ℕ) → flow_line ids this ≡ Ok (Some (One v u)) → Flowing t ids all (drawn v u arrows) next (n + 1)
    one v u e = record { closed = p.closed; few = omega (arith, q.next_is, p.few); room = drawn_length v u arrows ∙ p.room; rest = (rw e at step) }

    pub two : (v u : ℕ) → flow_line ids this ≡ Ok (Some (Two v u)) → Flowing t ids all (drawn u v (drawn v u arrows)) next (n + 1)
    two v u e = record { closed = p.closed; few = omega (arith, q.next_is, p.few); room = drawn_length u v (drawn v u arrows) ∙ drawn_length v u arrows ∙ p.room; rest = (rw e at step) }

module _ {t ids : List ℕ} {all : Got (List ℕ)} {arrows : List ℕ} {at n : ℕ} (p : Flowing t ids all arrows at n) (h : at < length t) where
  here : Found t at at (end_of 10 t at) (end_of 10 t at + 1)
  here = record { within = h; start_is = refl; end_is = refl; next_is = refl }

  pub arrow_bad : (x : Refused) → taken_by (flow_line ids) t at n ≡ Err x → refused x.refusal x.line ≡ all
  arrow_bad x e = let w = stopped_from (flow_line ids) t at n x e in rw w.1 (go w.0)
    where
      go : {y : Refusal} → StoppedFrom (flow_line ids) t at n y → refused y n ≡ all
      go (ended g) = absurd (omega arith)
      go (stop {x = y} g w) = bad p here y w

  module _ {x : Taken (Option Arrows)} (e : taken_by (flow_line ids) t at n ≡ Ok x) where
    from : TookFrom (flow_line ids) t at n x
    from = took_from (flow_line ids) t at n x e

    pub arrow_other : x.read ≡ None → got arrows (lines (drop at t)) n ≡ all
    arrow_other q = other p here (from.line_is ∙ ap Ok q)

    pub arrows_fit : n ≤ length t
    arrows_fit = line_fits p here

    pub few_more : n + 1 ≤ x.next + 1
    few_more = omega (arith, from.next_is, p.few)

    pub goes_on : at < x.next
    goes_on = omega (arith, from.next_is)

    module _ {a : Arrows} (r : x.read ≡ Some a) (v u : ℕ) where
      pub arrow_one : a ≡ One v u → Flowing t ids all (drawn v u arrows) x.next (n + 1)
      arrow_one q = rw from.next_is (one p here v u (from.line_is ∙ rw (r, q)))

      pub arrow_two : a ≡ Two v u → Flowing t ids all (drawn u v (drawn v u arrows)) x.next (n + 1)
      arrow_two q = rw from.next_is (two p here v u (from.line_is ∙ rw (r, q)))

      -- the boxes that it names are known
      pub one_known : a ≡ One v u → (v < length ids) × (u < length ids)
      one_known q = flow_good ids (line_at t at) _ _ (inl (from.line_is ∙ rw (r, q)))

      pub two_known : a ≡ Two v u → (v < length ids) × (u < length ids)
      two_known q = flow_good ids (line_at t at) _ _ (inr (from.line_is ∙ rw (r, q)))
