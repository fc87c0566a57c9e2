-- A record of a word and numbers is good exactly where its line is the word and the numbers' decimal forms, parted by tabs.
-- Assumes nothing.
use Rattle.std.specs.Prelude.{Err, Option, Some, None}
use Rattle.model.specs.declared.refusal.Refusal.{Refusal}
use Rattle.model.specs.declared.refusal.Refusal.TheVariants as why
use mathlib.Core.Path.{◌≡◌, refl, sym, ap, ap₂, ◌∙◌, subst}
use mathlib.Core.Bool.{Bool, true, false}
use mathlib.Core.List.{List, [], ◌∷◌}
use Prim.Native.Nat.{ℕ, suc, ◌≤◌}
use native.Mathlib.Omega.{arith}
use lib.Dec.{eqb}
use lib.ListN.{length, get_or, set, take, drop, replicate}
use borrow.Author.Tests.{eq-eqb, eqb-true}
use Rattle.laws.specs.Lists.{All}
use Rattle.text.specs.Number.{on_number, number, decimal}
use Rattle.text.specs.Lines.{onto, fields, same}
use Rattle.text.proofs.Digits.{read_decimal, number_limit}
use Rattle.text.proofs.Parts.{same_is}
use Rattle.sheet.specs.Numbers as records
use Rattle.sheet.specs.Numbers.{Record, said, four, each, word, rest, record_of}
use Rattle.sheet.proofs.Good.{same_numbers, passed}
use Rattle.demands.specs.Printed.{Row}
use Rattle.demands.proofs.Rows.{Plain, PlainRow, glue, fields_back, decimal_plain}
use Rattle.demands.proofs.Canonical.{number_is}

-- ---- any line is its fields, parted by tabs
onto_glue : (x : ℕ) (f : List ℕ) (fs : Row) → glue (onto x (f ∷ fs)) ≡ x ∷ glue (f ∷ fs)
unfolding onto glue
onto_glue x f [] = refl
onto_glue x f (g ∷ gs) = refl

record Parted (l : List ℕ) : Type 0 where
  first : List ℕ
  others : Row
  is : fields l ≡ first ∷ others
  back : glue (first ∷ others) ≡ l

parted : (l : List ℕ) → Parted l
unfolding fields onto glue
parted [] = record { first = []; others = []; is = refl; back = refl }
parted (x ∷ xs) = go (eqb x 9) refl (parted xs)
  where
    go : (t : Bool) → eqb x 9 ≡ t → Parted xs → Parted (x ∷ xs)
    go true e p = record {
      first = [];
      others = p.first ∷ p.others;
      is = rw e (ap (λ r. [] ∷ r) p.is);
      back = ap₂ (λ y ys. y ∷ ys) (sym (eqb-true x 9 e)) p.back;
    }
    go false e p = record {
      first = x ∷ p.first;
      others = p.others;
      is = rw e (ap (onto x) p.is);
      back = onto_glue x p.first p.others ∙ ap (λ ys. x ∷ ys) p.back;
    }

pub line_is : (l : List ℕ) → l ≡ glue (word l ∷ rest l)
line_is l = let p = parted l in sym p.back ∙ ap glue (sym (ap₂ (λ f fs. f ∷ fs) (ap (λ r. get_or r 0 []) p.is) (ap (drop 1) p.is)))

-- ---- the numbers of a record
abbrev pub Smalls : List ℕ → List ℕ → Type 0
Smalls [] [] = Unit {0}
Smalls [] (w ∷ ws) = ⊥
Smalls (m ∷ ms) [] = ⊥
Smalls (m ∷ ms) (w ∷ ws) = (w ≤ m) × Smalls ms ws

abbrev pub Limits : List ℕ → Type 0
Limits ms = All (λ m. m ≤ 4294967295) ms

unfoldable pub decimals : List ℕ → Row
decimals [] = []
decimals (w ∷ ws) = decimal w ∷ decimals ws

unfoldable pub set_all : ℕ → List ℕ → List ℕ → List ℕ
set_all k [] vs = vs
set_all k (w ∷ ws) vs = set_all (suc k) ws (set vs k w)

smalls_many : (ms ws : List ℕ) → Smalls ms ws → length (decimals ws) ≡ length ms
unfolding decimals
smalls_many [] [] h = refl
smalls_many [] (w ∷ ws) h = absurd h
smalls_many (m ∷ ms) [] h = absurd h
smalls_many (m ∷ ms) (w ∷ ws) h = ap suc (smalls_many ms ws h.1)

each_print : (ms ws : List ℕ) (k : ℕ) (vs : List ℕ) → Limits ms → Smalls ms ws → each ms (decimals ws) k vs ≡ four (set_all k ws vs)
unfolding each decimals set_all
each_print [] [] k vs m h = refl
each_print [] (w ∷ ws) k vs m h = absurd h
each_print (l ∷ ms) [] k vs m h = absurd h
each_print (l ∷ ms) (w ∷ ws) k vs m h =
    let a = h.0 in let b = m.0 in
    ap (λ n. on_number n (λ v. each ms (decimals ws) (suc k) (set vs k v)) (Err why.Number)) (read_decimal l w h.0 (omega arith))
    ∙ each_print ms ws (suc k) (set vs k w) m.1 h.1

pub record Back (ms : List ℕ) (fs : Row) (k : ℕ) (vs : List ℕ) (a b c d : ℕ) : Type 0 where
  pub ws : List ℕ
  pub small : Smalls ms ws
  pub fields_are : fs ≡ decimals ws
  pub numbers : four (set_all k ws vs) ≡ said a b c d

no_numbers : {A : Type 0} {e : Refusal} {a b c d : ℕ} → Err e ≡ said a b c d → A
no_numbers h = let z : ◌≡◌ {A = ℕ} 0 1 = cc in absurd (omega arith)

each_back : (ms : List ℕ) (fs : Row) (k : ℕ) (vs : List ℕ) {a b c d : ℕ} → Limits ms → length fs ≡ length ms → each ms fs k vs ≡ said a b c d → Back ms fs k vs a b c d
unfolding each decimals set_all
each_back [] [] k vs m e h = record { ws = []; small = tt; fields_are = refl; numbers = h }
each_back [] (f ∷ fs) k vs m e h = absurd (omega arith)
each_back (l ∷ ms) [] k vs m e h = absurd (omega arith)
each_back (l ∷ ms) (f ∷ fs) k vs {a} {b} {c} {d} m e h = go (λ v h. each_back ms fs (suc k) (set vs k v) m.1 (omega arith) h) (number l f) refl h
  where
    go : ((v : ℕ) → each ms fs (suc k) (set vs k v) ≡ said a b c d → Back ms fs (suc k) (set vs k v) a b c d) → (n : Option ℕ) → number l f ≡ n → on_number n (λ v. each ms fs (suc k) (set vs k v)) (Err why.Number) ≡ said a b c d → Back (l ∷ ms) (f ∷ fs) k vs a b c d
    go back (Some v) q h =
        let i = back v h in
        record {
          ws = v ∷ i.ws;
          small = (number_limit l f v q, i.small);
          fields_are = ap₂ (λ x xs. x ∷ xs) (number_is l v f m.0 q) i.fields_are;
          numbers = i.numbers;
        }
    go back None q h = no_numbers h

-- ---- a whole record
pub same_self : (xs : List ℕ) → same xs xs ≡ true
unfolding same
same_self [] = refl
same_self (x ∷ xs) = rw (eq-eqb x x refl) (same_self xs)

decimals_plain : (f : List ℕ) → Plain f → (ws : List ℕ) → PlainRow (f ∷ decimals ws)
unfolding decimals
decimals_plain f p [] = p
decimals_plain f p (w ∷ ws) = (p, decimals_plain (decimal w) (decimal_plain w) ws)

abbrev pub none : List ℕ
none = replicate 4 0

pub record_print : (w ms ws : List ℕ) → Plain w → Limits ms → Smalls ms ws → record_of w ms (glue (w ∷ decimals ws)) ≡ four (set_all 0 ws none)
unfolding record_of records.numbers
record_print w ms ws p m h =
    rw (fields_back (w ∷ decimals ws) (decimals_plain w p ws), same_self w, eq-eqb _ _ (smalls_many ms ws h)) (each_print ms ws 0 none m h)

-- as many of the four numbers as there are limits
abbrev pub first : List ℕ → ℕ → ℕ → ℕ → ℕ → List ℕ
first ms a b c d = take (length ms) (a ∷ b ∷ c ∷ d ∷ [])

values_are : (ws : List ℕ) (n : ℕ) {a b c d : ℕ} → length ws ≡ n → n ≤ 4 → four (set_all 0 ws none) ≡ said a b c d → ws ≡ take n (a ∷ b ∷ c ∷ d ∷ [])
unfolding set_all
values_are [] n e l h = rw (← e) refl
values_are (x ∷ []) n {a} e l h = let p : x ≡ a = (same_numbers h).first in rw (← e, p) refl
values_are (x ∷ y ∷ []) n {a} {b} e l h = let p : x ≡ a = (same_numbers h).first in let q : y ≡ b = (same_numbers h).second in rw (← e, p, q) refl
values_are (x ∷ y ∷ z ∷ []) n {a} {b} {c} e l h = let p : x ≡ a = (same_numbers h).first in let q : y ≡ b = (same_numbers h).second in let r : z ≡ c = (same_numbers h).third in rw (← e, p, q, r) refl
values_are (x ∷ y ∷ z ∷ w ∷ []) n {a} {b} {c} {d} e l h =
    let p : x ≡ a = (same_numbers h).first in let q : y ≡ b = (same_numbers h).second in let r : z ≡ c = (same_numbers h).third in let s : w ≡ d = (same_numbers h).fourth in rw (← e, p, q, r, s) refl
values_are (x ∷ y ∷ z ∷ w ∷ v ∷ vs) n e l h = absurd (omega arith)

smalls_length : (ms ws : List ℕ) → Smalls ms ws → length ws ≡ length ms
smalls_length [] [] h = refl
smalls_length [] (w ∷ ws) h = absurd h
smalls_length (m ∷ ms) [] h = absurd h
smalls_length (m ∷ ms) (w ∷ ws) h = ap suc (smalls_length ms ws h.1)

pub record Line (w ms l : List ℕ) (a b c d : ℕ) : Type 0 where
  pub small : Smalls ms (first ms a b c d)
  pub is : l ≡ glue (w ∷ decimals (first ms a b c d))

pub record_back : (w ms l : List ℕ) {a b c d : ℕ} → Limits ms → length ms ≤ 4 → record_of w ms l ≡ said a b c d → Line w ms l a b c d
unfolding record_of records.numbers
record_back w ms l m few h =
    let p = passed (same (word l) w) why.Record h in
    let q = passed (eqb (length (rest l)) (length ms)) why.Fields p.1 in
    let b = each_back ms (rest l) 0 none m (eqb-true _ _ q.0) q.1 in
    let v = values_are b.ws (length ms) (smalls_length ms b.ws b.small) few b.numbers in
    record {
      small = subst (Smalls ms) v b.small;
      is = line_is l ∙ ap₂ (λ f fs. glue (f ∷ fs)) (same_is (word l) w p.0) (b.fields_are ∙ ap decimals v);
    }
