-- Cases on a test, and what joined tests say.
-- Assumes nothing.
use mathlib.Core.Path.{◌≡◌, refl, sym, ◌∙◌, subst}
use mathlib.Core.Logic.{◌⊎◌, inl, inr}
use mathlib.Core.Bool.{Bool, true, false, not}
use lib.Dec.{T}
use borrow.Author.Tests.{lt-ltb, le-ltb, le-leb, lt-leb, eq-eqb, ne_eqb}
use Rattle.laws.specs.Choice.{both, either, brings, without, choose}

pub by_test {ℓ} : {X : Type ℓ} (b : Bool) → (b ≡ true → X) → (b ≡ false → X) → X
by_test true f g = f refl
by_test false f g = g refl

pub not_both {ℓ} : {X : Type ℓ} {b : Bool} → b ≡ true → b ≡ false → X
not_both p q = absurd (subst T (sym p ∙ q) tt)

-- two tests that bring each other are one
pub agree : (a b : Bool) → (a ≡ true → b ≡ true) → (b ≡ true → a ≡ true) → a ≡ b
agree true b f g = sym (f refl)
agree false b f g = by_test b (λ e. not_both (g e) refl) (λ e. sym e)

pub false_of : {b : Bool} → (b ≡ true → ⊥) → b ≡ false
false_of {b} h = by_test b (λ e. absurd (h e)) (λ e. e)

-- ---- both
pub both_of : {a b : Bool} → a ≡ true → b ≡ true → both a b ≡ true
unfolding both
both_of p q = rw p q

pub both_true : (a b : Bool) → both a b ≡ true → (a ≡ true) × (b ≡ true)
unfolding both
both_true true b e = (refl, e)
both_true false b e = not_both e refl

pub both_no : (a : Bool) {b : Bool} → b ≡ false → both a b ≡ false
unfolding both
both_no true e = e
both_no false e = refl

-- ---- either
pub either_left : {a : Bool} (b : Bool) → a ≡ true → either a b ≡ true
unfolding either
either_left b e = rw e

pub either_right : (a : Bool) {b : Bool} → b ≡ true → either a b ≡ true
unfolding either
either_right true e = refl
either_right false e = e

pub either_true : (a b : Bool) → either a b ≡ true → (a ≡ true) ⊎ (b ≡ true)
unfolding either
either_true true b e = inl refl
either_true false b e = inr e

pub either_false : (a b : Bool) → either a b ≡ false → (a ≡ false) × (b ≡ false)
unfolding either
either_false true b e = not_both refl e
either_false false b e = (refl, e)

-- ---- brings
pub brings_at : (a b : Bool) → brings a b ≡ true → a ≡ true → b ≡ true
unfolding brings
brings_at true b h e = h
brings_at false b h e = not_both e refl

pub brings_of : (a : Bool) {b : Bool} → (a ≡ true → b ≡ true) → brings a b ≡ true
unfolding brings
brings_of true f = f refl
brings_of false f = refl

pub brings_false : (a b : Bool) → brings a b ≡ false → (a ≡ true) × (b ≡ false)
unfolding brings
brings_false true b h = (refl, h)
brings_false false b h = not_both refl h

-- ---- without

pub without_none : (a b : Bool) → (a ≡ true → b ≡ true) → without a b ≡ false
unfolding without
without_none true b f = rw (f refl)
without_none false b f = refl

pub without_true : (a b : Bool) → without a b ≡ true → (a ≡ true) × (b ≡ false)
unfolding without
without_true true true e = not_both e refl
without_true true false e = (refl, refl)
without_true false b e = not_both e refl

pub without_of : {a b : Bool} → a ≡ true → b ≡ false → without a b ≡ true
unfolding without
without_of p q = rw (p, q)

-- ---- a chain of tests, each of which returns where it fails
pub chain_no : {a : Bool} (b : Bool) → a ≡ false → false ≡ both a b
unfolding both
chain_no b e = rw e

pub chain_on : {a x : Bool} (b : Bool) → a ≡ true → x ≡ b → x ≡ both a b
unfolding both
chain_on b e q = rw e q

pub choose_yes : {A : Type 0} {b : Bool} {z x : A} (y : A) → b ≡ true → z ≡ x → z ≡ choose b x y
unfolding choose
choose_yes y e q = rw e q

pub choose_no : {A : Type 0} {b : Bool} {z y : A} (x : A) → b ≡ false → z ≡ y → z ≡ choose b x y
unfolding choose
choose_no x e q = rw e q

-- the code's flag f is the test b
pub told : {f : Bool} (b t : Bool) → f ≡ b → f ≡ t → b ≡ t
told b t e q = sym e ∙ q

-- what a flag of the code says of joined tests
pub not_yes : {b : Bool} → b ≡ true → false ≡ not b
not_yes e = rw e

pub not_no : {b : Bool} → b ≡ false → true ≡ not b
not_no e = rw e

pub without_not : {a : Bool} (b : Bool) → a ≡ false → false ≡ without a b
unfolding without
without_not b e = rw e

pub without_on : {a : Bool} (b : Bool) → a ≡ true → not b ≡ without a b
unfolding without
without_on true e = rw e
without_on false e = rw e

pub ruleset chain = (chain_no, chain_on, lt-ltb, le-ltb, le-leb, lt-leb, eq-eqb, ne_eqb)
