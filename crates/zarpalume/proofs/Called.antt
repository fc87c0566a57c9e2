-- The host call: zeros after what was written, and what the reader's answer makes of the verdict.
-- Assumes nothing.
use mathlib.Core.Path.{◌≡◌, refl, sym, ◌∙◌, ap}
use mathlib.Core.Bool.{false}
use mathlib.Core.List.{List, ◌++◌}
use Prim.Native.Nat.{ℕ, ◌-◌, ◌≤◌}
use lib.Dec.{eqb}
use lib.ListN.{length, drop, replicate}
use borrow.Author.Tests.{eq-eqb}
use Rattle.laws.proofs.Tables.{drop_zeros}
use Rattle.laws.proofs.Tests.{choose_no, choose_yes}
use Rattle.model.specs.Limits.{NEXT_ENTRIES, OUTPUT_ENTRIES, VIEW_ENTRIES, VERDICT_BYTES, BOXES}
use Rattle.model.specs.declared.Model.{Model}
use Rattle.model.proofs.Good.{model_table_good}
use Rattle.text.specs.Written.{Written}
use Rattle.sheet.proofs.Fits.{read_fits}
use Rattle.std.specs.Prelude.{Result, Ok, Err}
use Rattle.model.specs.declared.refusal.Refused.{Refused}
use Rattle.sheet.specs.Phases.{steps}
use Rattle.sheet.specs.Reading.{sheet_text, reading_of, outcome, read}
use Rattle.zarpalume.specs.Verdict.{verdict_of, refusal_of, LineSmall, said, verdict, call, call_of}
use Rattle.zarpalume.proofs.Reading.{line_small, reading_is}

pub call_good : (sheet buffer b b' : List ℕ) {n : ℕ} {xs : List ℕ} → length buffer ≡ VERDICT_BYTES → b ≡ replicate (length buffer) 0 →
    Written b b' n xs → xs ≡ verdict sheet → call n b' ≡ call_of sheet buffer
unfolding call_of
call_good sheet buffer b b' {n} {xs} h z w e =
    ap (λ k. call k b') (w.count ∙ ap length e)
    ∙ ap (call (length (verdict sheet))) (w.now_is ∙ ap (λ v. v ++ drop n b) e ∙ ap (λ d. verdict sheet ++ d) after)
    ∙ choose_yes _ (eq-eqb _ _ h) refl
  where
    after : drop n b ≡ replicate (VERDICT_BYTES - length (verdict sheet)) 0
    after =
        ap (drop n) (z ∙ ap (λ k. replicate k 0) h) ∙ drop_zeros n VERDICT_BYTES
        ∙ ap (λ k. replicate (VERDICT_BYTES - k) 0) (w.count ∙ ap length e)

pub call_bad : (sheet buffer : List ℕ) → eqb (length buffer) VERDICT_BYTES ≡ false → call 0 buffer ≡ call_of sheet buffer
unfolding call_of
call_bad sheet buffer h = choose_no _ h refl

-- ---- what the reader gave, and the tables
module _ (t next₀ outputs₀ views₀ : List ℕ) (a : Result Model Refused) (next outputs views : List ℕ) (r : outcome a next outputs views ≡ read t next₀ outputs₀ views₀)
    (ln : length next₀ ≡ NEXT_ENTRIES) (lo : length outputs₀ ≡ OUTPUT_ENTRIES) (lv : length views₀ ≡ VIEW_ENTRIES) where
  as_read : reading_of a (steps next outputs) views ≡ sheet_text t
  as_read = reading_is t next₀ outputs₀ views₀ a next outputs views ln lo lv r

  module _ {x : Refused} (e : a ≡ Err x) where
    pub line_fits : LineSmall x
    line_fits = line_small t (sym as_read ∙ ap (λ a. reading_of a (steps next outputs) views) e)

    pub refused_said : refusal_of x ≡ verdict t
    unfolding verdict
    refused_said = ap said (sym (ap (λ a. reading_of a (steps next outputs) views) e) ∙ as_read)

  module _ {m : Model} (e : a ≡ Ok m) where
    pub model_said : verdict_of m next outputs views ≡ verdict t
    unfolding verdict
    model_said = ap said (sym (ap (λ a. reading_of a (steps next outputs) views) e) ∙ as_read)

    pub boxes_most : m.machine.sizes.boxes ≤ BOXES
    boxes_most =
        let f = read_fits t (sym as_read ∙ ap (λ a. reading_of a (steps next outputs) views) e) in
        ((model_table_good _ _).0 f.0).0.machine.sizes.boxes_most
