-- What a loop over the lines that are due knows, for every kind of line. Assumes nothing.
use Rattle.model.specs.declared.refusal.Refusal.{Refusal}
use Rattle.model.specs.declared.refusal.Refusal.TheVariants as why
use Rattle.std.specs.Prelude.{Ok, Err}
use Prim.Native.Nat.{ℕ, suc, ◌+◌, ◌-◌, ◌<◌, ◌≤◌}
use mathlib.Core.Path.{◌≡◌}
use mathlib.Core.List.{List}
use native.Mathlib.Omega.{arith}
use native.Mathlib.Nat.{sub-zero}
use native.Mathlib.Numerals.{add-one}
use lib.ListN.{length, drop}
use Rattle.text.specs.Lines.{lines, end_of, line_at, Ended}
use Rattle.text.proofs.Parts.{line_next, no_lines}
use Rattle.model.specs.declared.refusal.Refused.{Refused}
use Rattle.sheet.specs.declared.Taken.{Taken}
use Rattle.sheet.specs.declared.Numbers.{Numbers}
use Rattle.sheet.specs.Numbers.{Record, on_record, kept_as}
use Rattle.sheet.specs.Phases.{Got, got, refused, phase, taken_by}
use Rattle.sheet.proofs.Taking.{KeptOf, kept_ok, kept_err, TookFrom, took_from, StoppedFrom, ended, bad, stopped_from}

-- the entries below k are read, and what is left at the place gives what the whole run gives
pub record Going {S : Type 0} (line : ℕ → S → List ℕ → Record) (store : ℕ → S → ℕ → ℕ → ℕ → ℕ → S) (t : List ℕ) (all : Got S) (total k : ℕ) (s : S) (at n : ℕ) : Type 0 where
  pub closed : Ended t
  pub few : n ≤ at + 1
  pub below : k ≤ total
  pub rest : phase line store (total - k) k s (lines (drop at t)) n ≡ all

pub start : {S : Type 0} (line : ℕ → S → List ℕ → Record) (store : ℕ → S → ℕ → ℕ → ℕ → ℕ → S) (t : List ℕ) (total : ℕ) (s : S) (at n : ℕ) → Ended t → n ≤ at + 1 → Going line store t (phase line store total 0 s (lines (drop at t)) n) total 0 s at n
start line store t total s at n q h = record { closed = q; few = h; below = omega arith; rest = rw sub-zero }

module _ {S : Type 0} {line : ℕ → S → List ℕ → Record} {store : ℕ → S → ℕ → ℕ → ℕ → ℕ → S} {t : List ℕ} {all : Got S} {total k : ℕ} {s : S} {at n : ℕ} (p : Going line store t all total k s at n) where
  pub over : total ≤ k → got s (lines (drop at t)) n ≡ all
  unfolding phase
  over h = let z : total - k ≡ 0 = omega arith in (rw z at p.rest)

  module _ (h : k < total) where
    more : total - k ≡ suc (total - (k + 1))
    more = omega arith

    -- the next line, if there is one
    step : at < length t → on_record (line k s (line_at t at)) (λ a b c d. phase line store (total - (k + 1)) (suc k) (store k s a b c d) (lines (drop (end_of 10 t at + 1) t)) (suc n)) (λ e. refused e n) ≡ all
    unfolding phase
    step g = (rw (more, line_next p.closed at g) at p.rest)

    -- the text has ended
    none : length t ≤ at → refused why.Ended n ≡ all
    unfolding phase
    none g = (rw (more, no_lines t at g) at p.rest)

    goes_on : {ns : Numbers} {next : ℕ} → at < length t → line k s (line_at t at) ≡ Ok ns → next ≡ end_of 10 t at + 1 → Going line store t all total (k + 1) (store k s ns.first ns.second ns.third ns.fourth) next (n + 1)
    goes_on w l e = record {
      closed = p.closed;
      few = omega (arith, e, p.few);
      below = omega arith;
      rest = rw (e, add-one n, add-one k) (rw (l, add-one k) at (step w));
    }

    -- f is what the reader keeps of the line's record
    module _ {T : Type 0} (f : ℕ → ℕ → ℕ → ℕ → T) where
      pub stopped : (x : Refused) → taken_by (λ l. kept_as f (line k s l)) t at n ≡ Err x → refused x.refusal x.line ≡ all
      stopped x e = let w = stopped_from (λ l. kept_as f (line k s l)) t at n x e in rw w.1 (go w.0)
        where
          go : {y : Refusal} → StoppedFrom (λ l. kept_as f (line k s l)) t at n y → refused y n ≡ all
          go (ended g) = none g
          go (bad {x = y} g w) = (rw (kept_err f (line k s (line_at t at)) y w) at (step g))

      module _ {x : Taken T} (e : taken_by (λ l. kept_as f (line k s l)) t at n ≡ Ok x) where
        from : TookFrom (λ l. kept_as f (line k s l)) t at n x
        from = took_from (λ l. kept_as f (line k s l)) t at n x e

        pub line_fits : n ≤ length t
        line_fits = omega (arith, from.within, p.few)

        pub said : KeptOf f (line k s (line_at t at)) x.read
        said = kept_ok f (line k s (line_at t at)) x.read from.line_is

        pub few_more : n + 1 ≤ x.next + 1
        few_more = omega (arith, from.next_is, p.few)

        -- s' is the state with what was read
        pub took : {s' : S} → ((a b c d : ℕ) → x.read ≡ f a b c d → s' ≡ store k s a b c d) → Going line store t all total (k + 1) s' x.next (n + 1)
        took g = rw (g _ _ _ _ said.read_is) (goes_on from.within said.is from.next_is)
