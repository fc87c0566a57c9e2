-- Where an id stands among those given. Assumes nothing.
use Rattle.std.proofs.Common.{◌≡◌, ℕ, ◌<◌, Bool, true, false, cond, List, length, Option, Some, None, Result, Ok, Err, eqb, ltb, refl, sym, ap, ◌∙◌, arith}
use Rattle.std.specs.List.{position_or_len}
use Rattle.std.specs.Option.{ok_or}
use Rattle.std.proofs.lemmas.List.Recursion.{is_position_or_len}
use borrow.Author.Tests.{ltb-true}
use Rattle.text.specs.Lines.{before}
use Rattle.model.specs.declared.refusal.Refusal.{Refusal}
use Rattle.sheet.specs.Numbers.{said, as_first}
use Rattle.sheet.specs.Records.{position, known, placed}

-- what the library's search finds
pub found_is : (ids : List ℕ) (id : ℕ) (o : Option ℕ) → o ≡ cond (ltb (position_or_len (λ x. eqb x id) ids) (length ids)) (Some (position_or_len (λ x. eqb x id) ids)) None → o ≡ placed ids id
unfolding before
found_is ids id o h =
    let e : before id ids ≡ position_or_len (λ x. eqb x id) ids = is_position_or_len (before id) (λ x. eqb x id) refl (λ x xs. ap (λ (n : ℕ). cond (eqb x id) 0 n) (omega arith)) ids in
    h ∙ rw e

module _ (ids : List ℕ) (id : ℕ) where
  pub placed_some : (k : ℕ) → placed ids id ≡ Some k → (known ids id ≡ true) × (k ≡ position ids id) × (k < length ids)
  placed_some k h = go (known ids id) refl h
    where
      go : (b : Bool) → known ids id ≡ b → cond b (Some (position ids id)) None ≡ Some k → (known ids id ≡ true) × (k ≡ position ids id) × (k < length ids)
      go true q e = let z : position ids id ≡ k = cc in (q, sym z, omega (arith, ltb-true _ _ q, z))
      go false q e = let z : ◌≡◌ {A = ℕ} 0 1 = cc in absurd (omega arith)

  pub placed_none : placed ids id ≡ None → known ids id ≡ false
  placed_none h = go (known ids id) refl h
    where
      go : (b : Bool) → known ids id ≡ b → cond b (Some (position ids id)) None ≡ None → known ids id ≡ false
      go true q e = let z : ◌≡◌ {A = ℕ} 0 1 = cc in absurd (omega arith)
      go false q e = q

  -- the same of what a caller asks of the position
  module _ {E : Type 0} (e : E) {o : Option ℕ} (p : o ≡ placed ids id) {r : Result ℕ E} (q : r ≡ ok_or o e) where
    pub known_ok : (k : ℕ) → r ≡ Ok k → (known ids id ≡ true) × (k ≡ position ids id) × (k < length ids)
    known_ok k h = go o p (sym q ∙ h)
      where
        go : (o : Option ℕ) → o ≡ placed ids id → ok_or o e ≡ Ok k → (known ids id ≡ true) × (k ≡ position ids id) × (k < length ids)
        go (Some x) p h = let z : x ≡ k = cc in placed_some k (sym p ∙ ap Some z)
        go None p h = let z : ◌≡◌ {A = ℕ} 0 1 = cc in absurd (omega arith)

    pub known_err : (x : E) → r ≡ Err x → (known ids id ≡ false) × (x ≡ e)
    known_err x h = go o p (sym q ∙ h)
      where
        go : (o : Option ℕ) → o ≡ placed ids id → ok_or o e ≡ Err x → (known ids id ≡ false) × (x ≡ e)
        go (Some k) p h = let z : ◌≡◌ {A = ℕ} 0 1 = cc in absurd (omega arith)
        go None p h = (placed_none (sym p), sym cc)

  -- the position is all that is kept of a record
  pub known_first : {o : Option ℕ} → o ≡ placed ids id → {r : Result ℕ Refusal} (e : Refusal) → r ≡ ok_or o e → r ≡ as_first (cond (known ids id) (said (position ids id) 0 0 0) (Err e))
  known_first {o} p {r} e q = q ∙ rw p (go (known ids id))
    where
      go : (b : Bool) → ok_or (cond b (Some (position ids id)) None) e ≡ as_first (cond b (said (position ids id) 0 0 0) (Err e))
      go true = refl
      go false = refl
