-- Demand 1 of the calls that take a text: the reader, the label call and the verdict.
-- Assumes nothing.
use mathlib.Core.Path.{◌≡◌, refl, sym, ap, ◌∙◌}
use mathlib.Core.Logic.{◌↔◌, ⊎_elim}
use mathlib.Core.Bool.{Bool, true, false, ◌&&◌}
use mathlib.Core.List.{List, [], ◌∷◌}
use Prim.Native.Nat.{ℕ, ◌<◌, ◌≤◌}
use native.Mathlib.Omega.{arith}
use lib.Dec.{eqb, ltb, leb}
use lib.ListN.{length}
use borrow.Author.Tests.{eqb-true, ltb-true, ltb-false, lt-ltb, le-ltb, leb-true}
use Rattle.laws.specs.Choice.{both, either, choose}
use Rattle.laws.proofs.Tests.{by_test, not_both, both_true, either_true}
use Rattle.model.specs.Limits.{NEXT_ENTRIES, OUTPUT_ENTRIES, VIEW_ENTRIES, VERDICT_BYTES}
use Rattle.model.specs.declared.Sizes.{Sizes}
use Rattle.text.specs.Lines.{same}
use Rattle.sheet.specs.Words as words
use Rattle.sheet.specs.Numbers.{word}
use Rattle.sheet.specs.Table.{Row}
use Rattle.sheet.specs.Meaning.{Situation, at_sheet, at_box, at_act, at_go, at_flow, at_view, at_end, rows_at, FirstRow, here, later, Refused, ended, bad, good, RefusedText, whole, by_line}
use Rattle.sheet.specs.Reading.{Parts, Reading, model, refusal, given, Outcome, outcome, zeros, read, sheet_text}
use Rattle.sheet.proofs.Table.{refused_means, means_refused}
use Rattle.std.specs.Prelude.{Result, Ok, Err}
use Rattle.model.specs.Refusal.{number_of, refused_as}
use Rattle.model.specs.declared.Model.{Model}
use Rattle.model.specs.declared.refusal.Refusal as named
use Rattle.model.specs.declared.refusal.Refusal.TheVariants as why
use Rattle.model.specs.declared.refusal.Refused as refused
use Rattle.sheet.specs.Label.{Label, label_place, found_in, label_found, label_of, label}
use Rattle.zarpalume.specs.Verdict.{call, call_of}
use Rattle.zarpalume.proofs.Called.{call_bad}
use Rattle.demands.specs.Refusals.{ThreeTables, TextRefusal, ten, text, LabelRefusal, thirteen, left}
use Rattle.demands.proofs.Refusing.{three_fit}

-- ---- a text is refused with one of the numbers 1 to 9 and 11
unfoldable pub of_text : ℕ → Bool
of_text n = either (both (ltb 0 n) (leb n 9)) (eqb n 11)

unfoldable all_of_text : List Row → Bool
all_of_text [] = true
all_of_text (x ∷ xs) = both (of_text (number_of x.refusal)) (all_of_text xs)

first_of_text : {xs : List Row} {e : named.Refusal} → all_of_text xs ≡ true → FirstRow xs e → of_text (number_of e) ≡ true
unfolding all_of_text
first_of_text h (here e) = (both_true _ _ h).0
first_of_text h (later e f) = first_of_text (both_true _ _ h).1 f

rows_of_text : (s : Situation) (l : List ℕ) → all_of_text (rows_at s l) ≡ true
unfolding all_of_text of_text both either
rows_of_text at_sheet l = refl
rows_of_text (at_box z k ids) l = refl
rows_of_text (at_act z ids k) l = refl
rows_of_text (at_go z ids k) l = refl
rows_of_text (at_flow z ids) l = by_test (same (word l) words.flow) (λ e. rw e refl) (λ e. rw e (by_test (same (word l) words.both) (λ f. rw f refl) (λ f. rw f refl)))
rows_of_text (at_view z ids k) l = refl
rows_of_text at_end l = refl

lines_of_text : {s : Situation} {ls : List (List ℕ)} {n m : ℕ} {e : named.Refusal} → Refused s ls n e m → of_text (number_of e) ≡ true
unfolding of_text either both
lines_of_text (ended c) = refl
lines_of_text (bad {s} {l} f) = first_of_text (rows_of_text s l) f
lines_of_text (good a b c d f e r) = lines_of_text r

pub number_of_text : {t : List ℕ} {e : named.Refusal} {n : ℕ} → RefusedText t e n → of_text (number_of e) ≡ true
unfolding of_text either both
number_of_text (whole q) = refl
number_of_text (by_line q r) = lines_of_text r

pub number_small : (e : ℕ) → of_text e ≡ true → (0 < e) × (e ≤ 11)
unfolding of_text
number_small e h =
    ⊎_elim
    (λ l. let p = both_true _ _ l in let j : 0 < e = ltb-true 0 e p.0 in let k : e ≤ 9 = leb-true e 9 p.1 in (omega arith, omega arith))
    (λ q. let k : e ≡ 11 = eqb-true e 11 q in (omega arith, omega arith)) (either_true _ _ h)

not_ten : (e : ℕ) → of_text e ≡ true → eqb e 10 ≡ false
unfolding of_text either both
not_ten e h = by_test (eqb e 10) (λ q. not_both h (ap of_text (eqb-true e 10 q))) (λ q. q)

-- ---- the reader
joined : (a b c : Bool) → (a && b && c) ≡ both a (both b c)
unfolding both
joined true true c = refl
joined true false c = refl
joined false b c = refl

module _ (t next outputs views : List ℕ) where
  lengths_test : ((eqb (length next) NEXT_ENTRIES && eqb (length outputs) OUTPUT_ENTRIES && eqb (length views) VIEW_ENTRIES) ≡ true) ↔ ThreeTables next outputs views
  lengths_test =
      let s = joined (eqb (length next) NEXT_ENTRIES) (eqb (length outputs) OUTPUT_ENTRIES) (eqb (length views) VIEW_ENTRIES) in
      let f = three_fit (length next) (length outputs) (length views) NEXT_ENTRIES OUTPUT_ENTRIES VIEW_ENTRIES in
      (λ e. f.0 (sym s ∙ e), λ h. s ∙ f.1 h)

  -- what a refusal gives back
  abbrev refused_with : named.Refusal → ℕ → Outcome
  refused_with n l = outcome (Err (refused_as n l)) (left (number_of n) next) (left (number_of n) outputs) (left (number_of n) views)

  left_ten : outcome (Err (refused_as why.Length 0)) next outputs views ≡ refused_with why.Length 0
  unfolding left choose
  left_ten = refl

  left_text : {n : named.Refusal} {l : ℕ} → ThreeTables next outputs views → eqb (number_of n) 10 ≡ false → given (refusal n l) ≡ refused_with n l
  unfolding left choose zeros
  left_text h e = rw (e, h.0, h.1, h.2)

  wrong : ¬ ThreeTables next outputs views → read t next outputs views ≡ refused_with why.Length 0
  unfolding read
  wrong k = by_test (eqb (length next) NEXT_ENTRIES && eqb (length outputs) OUTPUT_ENTRIES && eqb (length views) VIEW_ENTRIES)
      (λ e. absurd (k (lengths_test.0 e))) (λ e. rw e left_ten)

  pub right : ThreeTables next outputs views → read t next outputs views ≡ given (sheet_text t)
  unfolding read
  right h = rw (lengths_test.1 h)

  abbrev answer_of : Outcome → Result Model refused.Refused
  answer_of r = r.answer

  abbrev answered : Outcome
  answered = read t next outputs views

  as_said : {n : named.Refusal} {l : ℕ} → TextRefusal (ThreeTables next outputs views) t n l → answered ≡ refused_with n l
  as_said (ten k) = wrong k
  as_said (text h r) = right h ∙ ap given (means_refused t _ _ r) ∙ left_text h (not_ten _ (number_of_text r))

  moved : {n n' : named.Refusal} {l l' : ℕ} → answer_of answered ≡ Err (refused_as n' l') → TextRefusal (ThreeTables next outputs views) t n l → TextRefusal (ThreeTables next outputs views) t n' l'
  moved {n} {n'} {l} {l'} e r =
      let o : Err (refused_as n l) ≡ Err (refused_as n' l') = sym (ap answer_of (as_said r)) ∙ e in
      let w : refused_as n l ≡ refused_as n' l' = cc in
      let a : n ≡ n' = ap (λ (x : refused.Refused). x.refusal) w in let b : l ≡ l' = ap (λ (x : refused.Refused). x.line) w in
      rw (← a, ← b) r

  only_then : {n : named.Refusal} {l : ℕ} → answer_of answered ≡ Err (refused_as n l) → TextRefusal (ThreeTables next outputs views) t n l
  only_then {n} {l} e =
      by_test (eqb (length next) NEXT_ENTRIES && eqb (length outputs) OUTPUT_ENTRIES && eqb (length views) VIEW_ENTRIES)
      (λ f. let h = lengths_test.0 f in as_read h (sheet_text t) refl (sym (ap answer_of (right h)) ∙ e))
      (λ f. moved e (ten (λ h. not_both (lengths_test.1 h) f)))
    where
      as_read : ThreeTables next outputs views → (rd : Reading) → sheet_text t ≡ rd → answer_of (given rd) ≡ Err (refused_as n l) → TextRefusal (ThreeTables next outputs views) t n l
      as_read h (model z p) q o = absurd (let d : ◌≡◌ {A = ℕ} 0 1 = cc in omega arith)
      as_read h (refusal n' l') q o = moved e (text h (refused_means t n' l' q))

  pub read_refused : (n : named.Refusal) (l : ℕ) → TextRefusal (ThreeTables next outputs views) t n l ↔ (answer_of answered ≡ Err (refused_as n l))
  read_refused n l = (λ r. ap answer_of (as_said r), only_then)

  pub read_whole : (n : named.Refusal) (l : ℕ) → answer_of answered ≡ Err (refused_as n l) → answered ≡ refused_with n l
  read_whole n l e = as_said (only_then e)

-- ---- the label call
module _ (t : List ℕ) (position : ℕ) where
  label_whole : {n : named.Refusal} {l : ℕ} → LabelRefusal t position n l → label t position ≡ Err (refused_as n l)
  unfolding label_found
  label_whole (text r) = ap (λ rd. label_of t (found_in rd t position)) (means_refused t _ _ r)
  label_whole (thirteen z p e h) = ap (λ rd. label_of t (found_in rd t position)) e ∙ rw (le-ltb _ _ h) refl

  pub label_found_lem : (z : Sizes) (p : Parts) → sheet_text t ≡ model z p → position < z.boxes →
      label t position ≡ label_of t (Ok (label_place t position))
  unfolding label_found
  label_found_lem z p e h = ap (λ rd. label_of t (found_in rd t position)) e ∙ rw (lt-ltb _ _ h) refl

  moved_label : {n n' : named.Refusal} {l l' : ℕ} → label t position ≡ Err (refused_as n' l') → LabelRefusal t position n l → LabelRefusal t position n' l'
  moved_label {n} {n'} {l} {l'} e r =
      let o : ◌≡◌ {A = Result Label refused.Refused} (Err (refused_as n l)) (Err (refused_as n' l')) = sym (label_whole r) ∙ e in
      let w : refused_as n l ≡ refused_as n' l' = cc in
      let a : n ≡ n' = ap (λ (x : refused.Refused). x.refusal) w in let b : l ≡ l' = ap (λ (x : refused.Refused). x.line) w in
      rw (← a, ← b) r

  pub label_refused : (n : named.Refusal) (l : ℕ) → LabelRefusal t position n l ↔ (label t position ≡ Err (refused_as n l))
  label_refused n l = (λ r. label_whole r, λ h. from h (sheet_text t) refl)
    where
      from : label t position ≡ Err (refused_as n l) → (rd : Reading) → sheet_text t ≡ rd → LabelRefusal t position n l
      from h (model z p) q =
          by_test (ltb position z.boxes)
          (λ b. let w = sym (label_found_lem z p q (ltb-true _ _ b)) ∙ h in absurd (let d : ◌≡◌ {A = ℕ} 0 1 = cc in omega arith))
          (λ b. moved_label h (thirteen z p q (ltb-false _ _ b)))
      from h (refusal n' l') q = moved_label h (text (refused_means t n' l' q))

-- ---- the verdict
pub verdict_refused : (t buffer : List ℕ) → ¬ (length buffer ≡ VERDICT_BYTES) → call_of t buffer ≡ call 0 buffer
verdict_refused t buffer k = sym (call_bad t buffer (by_test (eqb (length buffer) VERDICT_BYTES) (λ e. absurd (k (eqb-true _ _ e))) (λ e. e)))
