-- said read in one walk, with the count of fields known only at its end. Assumes nothing.
use Rattle.model.specs.declared.refusal.Refusal.TheVariants as why
use Rattle.std.specs.Prelude.{Err, Option, Some, None}
use Prim.Native.Nat.{ℕ, suc, ◌+◌, ◌<◌, ◌≤◌}
use mathlib.Core.Path.{◌≡◌, refl, ◌∙◌}
use mathlib.Core.List.{List, [], ◌∷◌}
use mathlib.Core.Bool.{Bool, true, false, cond}
use native.Mathlib.Omega.{arith}
use native.Mathlib.Numerals.{add-one}
use lib.ListN.{length, get_or, set, drop, replicate, length-set, drop_of_length-le}
use lib.Seq.{drop-cons}
use lib.Dec.{eqb, eqb-suc-suc, eqb-suc-zero, eqb-zero-suc}
use Rattle.text.specs.Number.{number, on_number}
use Rattle.text.specs.Lines.{fields_at, field_from, end_of}
use Rattle.text.proofs.Parts.{fields_next, fields_none}
use Rattle.sheet.specs.Numbers.{Record, four, each, numbers}

-- one field after another; `good` says that no number was bad
unfoldable collect : List ℕ → List (List ℕ) → Bool → ℕ → List ℕ → Record
collect [] [] good k vs = cond good (four vs) (Err why.Number)
collect [] (f ∷ fs) good k vs = Err why.Fields
collect (m ∷ ms) [] good k vs = Err why.Fields
collect (m ∷ ms) (f ∷ fs) good k vs =
    on_number (number m f) (λ v. collect ms fs good (suc k) (set vs k v)) (collect ms fs false (suc k) vs)

counted : List ℕ → List (List ℕ) → Bool → ℕ → List ℕ → Record
counted ms fs good k vs = cond (eqb (length fs) (length ms)) (cond good (each ms fs k vs) (Err why.Number)) (Err why.Fields)

collect_counts : (ms : List ℕ) (fs : List (List ℕ)) (good : Bool) (k : ℕ) (vs : List ℕ) → collect ms fs good k vs ≡ counted ms fs good k vs
unfolding collect counted each
collect_counts [] [] good k vs = refl
collect_counts [] (f ∷ fs) good k vs = simp eqb-suc-zero
collect_counts (m ∷ ms) [] good k vs = simp eqb-zero-suc
collect_counts (m ∷ ms) (f ∷ fs) good k vs = rw eqb-suc-suc (go (collect_counts ms fs) (number m f) good)
  where
    rest : List ℕ → Bool → Record
    rest vs good = cond (eqb (length fs) (length ms)) (cond good (each ms fs (suc k) vs) (Err why.Number)) (Err why.Fields)

    go : ((good : Bool) (k : ℕ) (vs : List ℕ) → collect ms fs good k vs ≡ counted ms fs good k vs)
        → (n : Option ℕ) (good : Bool)
        → on_number n (λ v. collect ms fs good (suc k) (set vs k v)) (collect ms fs false (suc k) vs)
        ≡ cond (eqb (length fs) (length ms)) (cond good (on_number n (λ v. each ms fs (suc k) (set vs k v)) (Err why.Number)) (Err why.Number)) (Err why.Fields)
    go f (Some v) good = f good (suc k) (set vs k v)
    go f None true = f false (suc k) vs
    go f None false = f false (suc k) vs

-- what a loop over the limits knows at limit k and place i
pub record At (l : List ℕ) (from : ℕ) (ms vs : List ℕ) (good : Bool) (i k : ℕ) : Type 0 where
  pub few : length ms ≤ 4
  pub below : k ≤ length ms
  pub room : length vs ≡ 4
  rest : collect (drop k ms) (fields_at l i) good k vs ≡ numbers ms (fields_at l from)

pub start : (l : List ℕ) (from : ℕ) (ms : List ℕ) → length ms ≤ 4 → At l from ms (replicate 4 0) true from 0
unfolding counted numbers
start l from ms h = record { few = h; below = omega arith; room = refl; rest = collect_counts ms (fields_at l from) true 0 (replicate 4 0) }

module _ {l : List ℕ} {from : ℕ} {ms vs : List ℕ} {good : Bool} {i k : ℕ} (p : At l from ms vs good i k) where
  pub too_many : length ms ≤ k → i ≤ length l → Err why.Fields ≡ numbers ms (fields_at l from)
  unfolding collect
  too_many h g = (rw (drop_of_length-le ms {i = k} h, fields_next l i g) at p.rest)

  pub all : length ms ≤ k → length l < i → cond good (four vs) (Err why.Number) ≡ numbers ms (fields_at l from)
  unfolding collect
  all h g = (rw (drop_of_length-le ms {i = k} h, fields_none l i g) at p.rest)

  module _ (h : k < length ms) where
    pub too_few : length l < i → Err why.Fields ≡ numbers ms (fields_at l from)
    unfolding collect
    too_few g = (rw (drop-cons ms k 0 h, fields_none l i g) at p.rest)

    module _ (g : i ≤ length l) where
      step : collect (get_or ms k 0 ∷ drop (suc k) ms) (field_from l i ∷ fields_at l (end_of 9 l i + 1)) good k vs ≡ numbers ms (fields_at l from)
      step = (rw (drop-cons ms k 0 h, fields_next l i g) at p.rest)

      pub a_number : (v : ℕ) → number (get_or ms k 0) (field_from l i) ≡ Some v → At l from ms (set vs k v) good (end_of 9 l i + 1) (k + 1)
      unfolding collect
      a_number v e = record { few = p.few; below = omega arith; room = length-set vs k v ∙ p.room; rest = rw add-one (rw e at step) }

      pub no_number : number (get_or ms k 0) (field_from l i) ≡ None → At l from ms vs false (end_of 9 l i + 1) (k + 1)
      unfolding collect
      no_number e = record { few = p.few; below = omega arith; room = p.room; rest = rw add-one (rw e at step) }
