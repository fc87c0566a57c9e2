-- What the demands ask of the verdict's bytes holds of ours.
-- Assumes nothing.
use Rattle.model.specs.Refusal.{number_of}
use mathlib.Core.Path.{◌≡◌, refl, sym, ap, ◌∙◌}
use mathlib.Core.Logic.{◌↔◌}
use mathlib.Core.List.{[], ◌∷◌, ◌++◌, append-nil}
use Prim.Native.Nat.{ℕ}
use native.Mathlib.Omega.{arith}
use lib.ListN.{get_or}
use Rattle.text.specs.Lines.{lines}
use Rattle.sheet.specs.Reading.{Reading, model, refusal, sheet_text}
use Rattle.sheet.proofs.Table.{refused_means, means_refused}
use Rattle.cases.specs.Cases.{accepted}
use Rattle.zarpalume.specs.Words as words
use Rattle.zarpalume.specs.Lines.{refused_line}
use Rattle.zarpalume.specs.Verdict.{said, verdict}
use Rattle.zarpalume.proofs.Reading.{line_small}
use Rattle.demands.specs.Calls.{Bytes}
use Rattle.demands.specs.Told.{refused, told_of, told}
use Rattle.demands.specs.Demands.{Meets, DemandOnBytes}
use Rattle.demands.proofs.Reading.{number_of_text, number_small}
use Rattle.demands.specs.Printed.{text}
use Rattle.demands.proofs.Rows.{text_once, first_row, glue}
use Rattle.demands.proofs.Bytes.{views_row, rows_of, rows_plain, views_plain, rows_once, apart, Small}
use Rattle.demands.proofs.AfterRead as after

-- ---- a sheet's verdict is the text of the rows of what is told, and its numbers are small
refused_rows : (n l : ℕ) → refused_line n l ≡ text (rows_of (refused n l))
unfolding text rows_of
refused_rows n l = sym (append-nil (refused_line n l))

as_rows : (t : Bytes) → verdict t ≡ text (rows_of (told (sheet_text t)))
unfolding verdict
as_rows t = go (sheet_text t) refl
  where
    go : (rd : Reading) → sheet_text t ≡ rd → said rd ≡ text (rows_of (told rd))
    go (refusal n l) e = refused_rows (number_of n) l
    go (model z p) e = after.said t e

all_small : (t : Bytes) → Small (told (sheet_text t))
all_small t = go (sheet_text t) refl
  where
    go : (rd : Reading) → sheet_text t ≡ rd → Small (told rd)
    go (refusal n l) e = let h = number_small (number_of n) (number_of_text (refused_means t n l e)) in let k = line_small t e in (omega (arith, h), omega arith)
    go (model z p) e = after.all_small t e

-- ---- the first line
abbrev first_line : Bytes → Bytes
first_line bytes = get_or (lines bytes) 0 []

abbrev accepted_line : Bytes
accepted_line = words.views ++ (9 ∷ words.accepted)

first_accepted : (t : Bytes) → (first_line (verdict t) ≡ accepted_line) ↔ Meets (sheet_text t)
unfolding rows_of views_row glue told_of
first_accepted t = go (sheet_text t) refl
  where
    line_of : (rd : Reading) → sheet_text t ≡ rd → first_line (verdict t) ≡ first_line (text (rows_of (told rd)))
    line_of rd e = ap first_line (as_rows t ∙ ap (λ rd. text (rows_of (told rd))) e)

    go : (rd : Reading) → sheet_text t ≡ rd → (first_line (verdict t) ≡ accepted_line) ↔ Meets rd
    go (refusal n l) e =
        let f = first_row _ (views_row accepted) [] (rows_plain (refused (number_of n) l)).0 (views_plain accepted) in
        (λ h. apart 0 (f.0 (sym (line_of (refusal n l) e) ∙ h)) (λ z. omega arith), λ h. absurd h)
    go (model z p) e =
        let f = first_row _ (views_row accepted) _ (views_plain (after.judged_views t e)) (views_plain accepted) in
        let k = after.accepted_told t e in
        (λ h. k.0 (f.0 (sym (line_of (model z p) e) ∙ h)), λ h. line_of (model z p) e ∙ f.1 (k.1 h))

pub demand_on_bytes : DemandOnBytes verdict
unfolding verdict
demand_on_bytes = record {
  refused = λ t n l r. ap said (means_refused t n l r);
  accepted = first_accepted;
  same = λ t t' e. rows_once _ _ (all_small t) (all_small t') (text_once _ _ (rows_plain _) (rows_plain _) (sym (as_rows t) ∙ e ∙ as_rows t'));
}
