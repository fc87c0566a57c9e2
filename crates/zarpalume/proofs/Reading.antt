-- What the reader's answer says: the reading of the text, and a refusal's line that fits.
-- Assumes nothing.
use mathlib.Core.Path.{◌≡◌, refl, ◌∙◌, ap}
use mathlib.Core.Bool.{Bool, true, false, ◌&&◌}
use mathlib.Core.List.{List, [], ◌∷◌}
use Prim.Native.Nat.{ℕ, suc, ◌+◌, ◌<◌, ◌≤◌}
use native.Mathlib.Omega.{arith}
use lib.Dec.{eqb, ltb}
use lib.ListN.{length}
use borrow.Author.Tests.{leb-true, eq-eqb}
use Rattle.laws.proofs.Tests.{by_test, not_both}
use Rattle.model.specs.Limits.{NEXT_ENTRIES, OUTPUT_ENTRIES, VIEW_ENTRIES, SHEET_BYTES}
use Rattle.text.specs.Lines.{lines, onto}
use Rattle.std.specs.Prelude.{Result}
use Rattle.model.specs.declared.Model.{Model}
use Rattle.model.specs.declared.refusal.Refusal.{Refusal}
use Rattle.model.specs.declared.refusal.Refused as refused
use Rattle.sheet.specs.Phases.{steps}
use Rattle.sheet.specs.Records.{sized}
use Rattle.sheet.specs.Meaning.{Situation, Refused, ended, bad, good, RefusedText, whole, by_line}
use Rattle.sheet.specs.Reading.{Reading, model, refusal, given, outcome, Outcome, read, sheet_text, reading_of}
use Rattle.sheet.proofs.Table.{refused_means}

-- ---- a refusal names a line of the text, or the one after its last
refused_line_lem : {s : Situation} {ls : List (List ℕ)} {n m : ℕ} {e : Refusal} → Refused s ls n e m → m ≤ n + length ls
refused_line_lem (ended c) = omega arith
refused_line_lem (bad f) = omega arith
refused_line_lem (good a b c d f e r) = let h = refused_line_lem r in omega arith

onto_few : (x : ℕ) (ls : List (List ℕ)) → length (onto x ls) ≤ suc (length ls)
unfolding onto
onto_few x [] = omega arith
onto_few x (l ∷ ls) = omega arith

lines_few : (t : List ℕ) → length (lines t) ≤ length t
unfolding lines
lines_few [] = omega arith
lines_few (x ∷ xs) =
    let h = lines_few xs in
    let o = onto_few x (lines xs) in
    by_test (eqb x 10) (λ e. rw e (omega arith)) (λ e. rw e (one x xs h))
  where
    one : (x : ℕ) (xs : List ℕ) → length (lines xs) ≤ length xs → length (onto x (lines xs)) ≤ suc (length xs)
    one x xs h = let o = onto_few x (lines xs) in omega arith

and_left : (a b : Bool) → (a && b) ≡ true → a ≡ true
and_left true b e = refl
and_left false b e = e

and_right : (a b : Bool) → (a && b) ≡ true → b ≡ true
and_right true b e = e
and_right false b e = not_both e refl

pub line_small : (t : List ℕ) {e : Refusal} {n : ℕ} → sheet_text t ≡ refusal e n → n < 65536
line_small t {e} {n} h = go (refused_means t e n h)
  where
    go : {e : Refusal} {n : ℕ} → RefusedText t e n → n < 65536
    go (whole q) = omega arith
    go (by_line q r) =
        let l : length t ≤ SHEET_BYTES = leb-true _ _ (and_right (ltb 0 (length t)) _ (and_left (sized SHEET_BYTES (length t)) _ q)) in
        let m = refused_line_lem r in
        let k = lines_few t in
        omega arith

-- ---- the outcome of a read over tables of the right lengths is the reading of the text
to_reading : Outcome → Reading
to_reading o = reading_of o.answer (steps o.next o.outputs) o.views

given_back : (rd : Reading) → to_reading (given rd) ≡ rd
unfolding to_reading
given_back (model z p) = refl
given_back (refusal e n) = refl

pub reading_is : (t next₀ outputs₀ views₀ : List ℕ) (a : Result Model refused.Refused) (next outputs views : List ℕ) →
    length next₀ ≡ NEXT_ENTRIES → length outputs₀ ≡ OUTPUT_ENTRIES → length views₀ ≡ VIEW_ENTRIES →
    outcome a next outputs views ≡ read t next₀ outputs₀ views₀ → reading_of a (steps next outputs) views ≡ sheet_text t
unfolding to_reading read
reading_is t next₀ outputs₀ views₀ s next outputs views a b c h =
    let e : read t next₀ outputs₀ views₀ ≡ given (sheet_text t) = rw (eq-eqb _ _ a, eq-eqb _ _ b, eq-eqb _ _ c) in
    ap to_reading (h ∙ e) ∙ given_back (sheet_text t)
