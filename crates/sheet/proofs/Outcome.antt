-- What the whole call gives, case by case. Assumes nothing.
use Rattle.std.specs.Result.{is_err}
use mathlib.Core.Bool.{true, false}
use native.Mathlib.Omega.{arith}
use Prim.Native.Nat.{ℕ}
use mathlib.Core.Path.{◌≡◌, sym}
use mathlib.Core.List.{List}
use borrow.Author.Tests.{eq-eqb, ne_eqb}
use lib.ListN.{length}
use Rattle.model.specs.Limits.{NEXT_ENTRIES, OUTPUT_ENTRIES, VIEW_ENTRIES}
use Rattle.std.specs.Prelude.{Result, Ok, Err}
use Rattle.model.specs.declared.refusal.Refusal.TheVariants as why
use Rattle.model.specs.declared.refusal.Refused.{Refused}
use Rattle.model.specs.Refusal.{refused_as}
use Rattle.model.specs.declared.Model.{Model}
use Rattle.sheet.specs.Phases.{Steps, steps}
use Rattle.sheet.specs.Reading.{zeros, reading_of, sheet_text, outcome, given, read}

module _ (t next outputs views : List ℕ) where
  pub wrong_next : (length next ≡ NEXT_ENTRIES → ⊥) → outcome (Err (refused_as why.Length 0)) next outputs views ≡ read t next outputs views
  unfolding read
  wrong_next p = rw (ne_eqb (length next) NEXT_ENTRIES p)

  module _ (p : length next ≡ NEXT_ENTRIES) where
    pub wrong_outputs : (length outputs ≡ OUTPUT_ENTRIES → ⊥) → outcome (Err (refused_as why.Length 0)) next outputs views ≡ read t next outputs views
    unfolding read
    wrong_outputs q = rw (eq-eqb (length next) NEXT_ENTRIES p, ne_eqb (length outputs) OUTPUT_ENTRIES q)

    module _ (q : length outputs ≡ OUTPUT_ENTRIES) where
      pub wrong_views : (length views ≡ VIEW_ENTRIES → ⊥) → outcome (Err (refused_as why.Length 0)) next outputs views ≡ read t next outputs views
      unfolding read
      wrong_views r = rw (eq-eqb (length next) NEXT_ENTRIES p, eq-eqb (length outputs) OUTPUT_ENTRIES q, ne_eqb (length views) VIEW_ENTRIES r)

      module _ (r : length views ≡ VIEW_ENTRIES) where
        right : given (sheet_text t) ≡ read t next outputs views
        unfolding read
        right = sym (rw (eq-eqb (length next) NEXT_ENTRIES p, eq-eqb (length outputs) OUTPUT_ENTRIES q, eq-eqb (length views) VIEW_ENTRIES r))

        pub a_refusal : (a : Result Model Refused) (s : Steps) (v next' outputs' views' : List ℕ) → reading_of a s v ≡ sheet_text t → is_err a ≡ true → next' ≡ zeros NEXT_ENTRIES → outputs' ≡ zeros OUTPUT_ENTRIES → views' ≡ zeros VIEW_ENTRIES → outcome a next' outputs' views' ≡ read t next outputs views
        a_refusal (Err x) s v next' outputs' views' h k m o u = rw (← right, ← h, m, o, u)
        a_refusal (Ok x) s v next' outputs' views' h k m o u = let z : ◌≡◌ {A = ℕ} 0 1 = cc in absurd (omega arith)

        pub a_model : (a : Result Model Refused) (next' outputs' views' : List ℕ) → reading_of a (steps next' outputs') views' ≡ sheet_text t → is_err a ≡ false → outcome a next' outputs' views' ≡ read t next outputs views
        a_model (Ok x) next' outputs' views' h k = rw (← right, ← h)
        a_model (Err x) next' outputs' views' h k = let z : ◌≡◌ {A = ℕ} 0 1 = cc in absurd (omega arith)
