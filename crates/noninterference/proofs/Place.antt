-- There is at most one first broken place.
-- Assumes nothing.
use mathlib.Core.Path.{◌≡◌, refl}
use mathlib.Core.Logic.{inl}
use Prim.Native.Nat.{ℕ}
use native.Mathlib.Omega.{arith}
use Rattle.laws.proofs.Order.{same_place}
use Rattle.noninterference.specs.Machine.{Machine}
use Rattle.noninterference.specs.Purge.{Policy, Kind}
use Rattle.noninterference.specs.Conditions.{States}
use Rattle.noninterference.specs.Place.{Place, output, respect, step, rank, Before, FirstBroken}

neither_before : (p q : Place) → ¬ Before p q → ¬ Before q p → p ≡ q
neither_before (output o s t) (output o' s' t') a b = let e = same_place (rank (output o s t)) (rank (output o' s' t')) refl a b in cc
neither_before (output o s t) (respect u a s') a' b = absurd (a' (inl (omega arith)))
neither_before (output o s t) (step u a s' t') a' b = absurd (a' (inl (omega arith)))
neither_before (respect u a s) (output o s' t) a' b = absurd (b (inl (omega arith)))
neither_before (respect u a s) (respect u' a' s') n b = let e = same_place (rank (respect u a s)) (rank (respect u' a' s')) refl n b in cc
neither_before (respect u a s) (step u' a' s' t) n b = absurd (n (inl (omega arith)))
neither_before (step u a s t) (output o s' t') n b = absurd (b (inl (omega arith)))
neither_before (step u a s t) (respect u' a' s') n b = absurd (b (inl (omega arith)))
neither_before (step u a s t) (step u' a' s' t') n b = let e = same_place (rank (step u a s t)) (rank (step u' a' s' t')) refl n b in cc

pub first_unique : {kind : Kind} {M : Machine} {S : States} {interferes : Policy} {view : ℕ → ℕ → ℕ} {In : Place → Type 0} (p q : Place) →
    FirstBroken kind M S interferes view In p → FirstBroken kind M S interferes view In q → p ≡ q
first_unique p q f g =
    neither_before p q (λ b. g.none_before p f.inside b f.breaks) (λ b. f.none_before q g.inside b g.breaks)
