-- What arrows lead where, once more are drawn.
-- Assumes nothing.
use mathlib.Core.Path.{◌≡◌, refl, sym, ap, ◌∙◌}
use mathlib.Core.Bool.{Bool, true, false}
use mathlib.Core.List.{List}
use Prim.Native.Nat.{ℕ, zero, suc, ◌<◌, ◌≤◌}
use native.Mathlib.Omega.{arith}
use native.Mathlib.Decide.{dec_lt}
use borrow.Author.Tests.{lt-ltb, le-ltb, eq-eqb, ne_eqb, eqb-true, eqb-false}
use lib.Dec.{eqb, ltb}
use lib.ListN.{length, get_or, replicate, length-set, length-replicate, get_or-replicate, get_or-eq_default}
use lib.Seq.{get_or-set_same, get_or-set_other}
use Rattle.laws.specs.Choice.{both, either}
use Rattle.laws.specs.Sets.{has, including}
use Rattle.laws.proofs.Tests.{by_test}
use Rattle.laws.proofs.Range.{by_order}
use Rattle.laws.proofs.Sets.{has_including, has_none}
use Rattle.model.specs.Arrows.{leads, drawn, selves}

pub drawn_length : (v u : ℕ) (rows : List ℕ) → length (drawn v u rows) ≡ length rows
drawn_length v u rows = length-set rows v (including (get_or rows v 0) u)

swapped : (a b : Bool) → either a b ≡ either b a
unfolding either
swapped true true = refl
swapped true false = refl
swapped false true = refl
swapped false false = refl

-- those that led there before, and the one that was drawn
pub drawn_at : (a b : ℕ) (rows : List ℕ) → a < length rows → (v u : ℕ) →
    leads (drawn a b rows) v u ≡ either (both (eqb a v) (eqb b u)) (leads rows v u)
unfolding both either
drawn_at a b rows l v u =
    by_test (eqb a v)
    (λ e. rw e (ap (λ row. has row u) (here (eqb-true a v e)) ∙ has_including (get_or rows v 0) b u ∙ swapped (has (get_or rows v 0) u) (eqb b u)))
    (λ e. rw e (ap (λ row. has row u) (get_or-set_other rows a v (including (get_or rows a 0) b) 0 (λ q. eqb-false a v e (sym q)))))
  where
    here : a ≡ v → get_or (drawn a b rows) v 0 ≡ including (get_or rows v 0) b
    here e =
        ap (λ x. get_or (drawn a b rows) x 0) (sym e) ∙ get_or-set_same rows a (including (get_or rows a 0) b) 0 l
        ∙ ap (λ x. including (get_or rows x 0) b) e

pub no_arrows : (n v u : ℕ) → leads (replicate n 0) v u ≡ false
no_arrows n v u = ap (λ row. has row u) (none (dec_lt v n)) ∙ has_none u
  where
    none : Dec (v < n) → ◌≡◌ {A = ℕ} (get_or (replicate n 0) v 0) 0
    none (yes h) = get_or-replicate n v 0 0 h
    none (no h) = get_or-eq_default (replicate n 0) 0 {n = v} (omega (arith, length-replicate {A = ℕ} n 0))

pub selves_length : (n : ℕ) (rows : List ℕ) → length (selves n rows) ≡ length rows
unfolding selves
selves_length zero rows = refl
selves_length (suc n) rows = drawn_length n n (selves n rows) ∙ selves_length n rows

-- from each of the first n boxes to itself, and nowhere else
pub selves_at : (n most : ℕ) → n ≤ most → (v u : ℕ) → leads (selves n (replicate most 0)) v u ≡ both (ltb v n) (eqb v u)
unfolding selves both either
selves_at zero most l v u = no_arrows most v u ∙ rw (le-ltb v 0 (omega arith))
selves_at (suc n) most l v u =
    drawn_at n n (selves n (replicate most 0)) (omega (arith, selves_length n (replicate most 0), length-replicate {A = ℕ} most 0)) v u
    ∙ ap (either (both (eqb n v) (eqb n u))) (selves_at n most (omega arith) v u)
    ∙ by_order v n
    (λ h. rw (ne_eqb n v (λ e. omega arith), lt-ltb v n h, lt-ltb v (suc n) (omega arith)))
    (λ h. rw (ne_eqb n v (λ e. omega arith), le-ltb v n (omega arith), le-ltb v (suc n) (omega arith)))
    (λ h. rw (eq-eqb n v (sym h), le-ltb v n (omega arith), lt-ltb v (suc n) (omega arith), h) (none (eqb n u)))
  where
    none : (c : Bool) → either c false ≡ c
    none true = refl
    none false = refl
