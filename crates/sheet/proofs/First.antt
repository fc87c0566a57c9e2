-- The `sheet` line, and what follows it. Assumes nothing.
use Prim.Native.Nat.{ℕ, ◌+◌, ◌-◌, ◌<◌, ◌≤◌}
use mathlib.Core.Path.{◌≡◌}
use mathlib.Core.List.{List, ◌∷◌}
use borrow.Author.Tests.{lt-ltb, le-leb, eq-eqb}
use lib.ListN.{length, get_or, drop, length-replicate}
use Rattle.model.specs.Made.{sizes_from}
use Rattle.model.specs.Good.{GoodSizes}
use Rattle.model.specs.Limits.{NEXT_ENTRIES, OUTPUT_ENTRIES, VIEW_ENTRIES, SHEET_BYTES}
use Rattle.text.specs.Lines.{lines, end_of, line_at, Ended}
use Rattle.text.proofs.Parts.{line_next, no_lines}
use Rattle.std.specs.Prelude.{Result, Ok, Err}
use Rattle.model.specs.declared.refusal.Refusal.{Refusal}
use Rattle.model.specs.declared.refusal.Refused.{Refused}
use Rattle.model.specs.declared.Sizes.{Sizes}
use Rattle.sheet.specs.declared.Numbers.{Numbers}
use Rattle.sheet.specs.Numbers.{as_sizes}
use Rattle.sheet.specs.declared.Taken.{Taken}
use Rattle.sheet.specs.Records.{sheet_line}
use Rattle.sheet.specs.Phases.{Got, Steps, steps, taken_by}
use Rattle.sheet.specs.Reading.{zeros, Parts, parts, model, refusal, finish, sheet_lines, sheet_text}
use Rattle.sheet.proofs.Taking.{KeptOf, kept_ok, kept_err, TookFrom, took_from, StoppedFrom, ended, bad, stopped_from}
use Rattle.sheet.proofs.Good.{sheet_good}

-- a `sheet` line was taken
abbrev sizes_at : List ℕ → Result Sizes Refusal
sizes_at l = as_sizes (sheet_line l)

module _ (t : List ℕ) {x : Taken Sizes} (h : taken_by (λ l. as_sizes (sheet_line l)) t 0 1 ≡ Ok x) where
  from : TookFrom sizes_at t 0 1 x
  from = took_from sizes_at t 0 1 x h

  said : KeptOf sizes_from (sheet_line (line_at t 0)) x.read
  said = kept_ok sizes_from (sheet_line (line_at t 0)) x.read from.line_is

  pub first_sizes : GoodSizes x.read
  first_sizes = rw said.read_is (sheet_good (line_at t 0) said.is)

module _ {t : List ℕ} (q : Ended t) (s : Steps) (v : List ℕ) where
  first_line_lem : 0 < length t → lines t ≡ line_at t 0 ∷ lines (drop (end_of 10 t 0 + 1) t)
  first_line_lem g = line_next q 0 g

  pub first_bad : (x : Refused) → taken_by (λ l. as_sizes (sheet_line l)) t 0 1 ≡ Err x → refusal x.refusal x.line ≡ sheet_lines s v (lines t)
  unfolding sheet_lines
  first_bad x h = let w = stopped_from sizes_at t 0 1 x h in rw w.1 (go w.0)
    where
      go : {y : Refusal} → StoppedFrom sizes_at t 0 1 y → refusal y 1 ≡ sheet_lines s v (lines t)
      go (ended g) = rw (no_lines t 0 g)
      go (bad {x = y} g w) = rw (first_line_lem g, kept_err sizes_from (sheet_line (line_at t 0)) y w)

  good_from : {ns : Numbers} {z : Sizes} {next : ℕ} {g : Got Parts} → 0 < length t → sheet_line (line_at t 0) ≡ Ok ns → z ≡ sizes_from ns.first ns.second ns.third ns.fourth → next ≡ end_of 10 t 0 + 1 → g ≡ parts z.states z.actions z.boxes s v (lines (drop next t)) 2 → finish g (model z) ≡ sheet_lines s v (lines t)
  unfolding sheet_lines
  good_from w l r n e = rw (e, r, first_line_lem w, l, n)

  pub first_good : {x : Taken Sizes} {g : Got Parts} → taken_by (λ l. as_sizes (sheet_line l)) t 0 1 ≡ Ok x → g ≡ parts x.read.states x.read.actions x.read.boxes s v (lines (drop x.next t)) 2 → finish g (model x.read) ≡ sheet_lines s v (lines t)
  first_good h e = good_from (from t h).within (said t h).is (said t h).read_is (from t h).next_is e

pub zeros_length : (n : ℕ) → length (zeros n) ≡ n
unfolding zeros
zeros_length n = length-replicate n 0

-- a text of the right length that ends in LF, over tables of zeros
pub over_zeros : (t next outputs views : List ℕ) → next ≡ zeros NEXT_ENTRIES → outputs ≡ zeros OUTPUT_ENTRIES → views ≡ zeros VIEW_ENTRIES → 0 < length t → length t ≤ SHEET_BYTES → get_or t (length t - 1) 0 ≡ 10 → sheet_lines (steps next outputs) views (lines t) ≡ sheet_text t
unfolding sheet_text
over_zeros t next outputs views p q r some few last = rw (p, q, r, lt-ltb 0 (length t) some, le-leb (length t) SHEET_BYTES few, eq-eqb (get_or t (length t - 1) 0) 10 last)
