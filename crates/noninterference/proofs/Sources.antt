-- Sources, one action on, and where the two kinds of purge agree (Lemmas 6 and 7).
-- Assumes nothing.
use mathlib.Core.Path.{◌≡◌, refl, sym, subst}
use mathlib.Core.Logic.{◌⊎◌, inl, inr, ⊎_elim}
use mathlib.Core.Bool.{true, false}
use mathlib.Core.List.{List, [], ◌∷◌}
use Prim.Native.Nat.{ℕ, ◌<◌}
use Rattle.laws.specs.Choice.{choose}
use Rattle.laws.specs.Lists.{All, any, elem}
use Rattle.laws.proofs.Tests.{by_test, not_both, agree}
use Rattle.laws.proofs.Lists.{elem_here, elem_there, elem_cases, elem_one, any_true, any_at}
use Rattle.noninterference.specs.Purge.{Policy, plain, intransitive, purge, sources, keeps}
use Rattle.noninterference.specs.Secure.{Transitive}

module _ (owner : ℕ → ℕ) (interferes : Policy) (u : ℕ) where
  -- the box purged for is a source
  pub source_self : elem u (sources owner interferes u []) ≡ true
  unfolding sources
  source_self = elem_here u []

  module _ (a : ℕ) (r : List ℕ) where
    -- a source stays one when an action is put in front
    pub source_stays : (v : ℕ) → elem v (sources owner interferes u r) ≡ true → elem v (sources owner interferes u (a ∷ r)) ≡ true
    unfolding sources choose
    source_stays v h =
        by_test (any (interferes (owner a)) (sources owner interferes u r))
        (λ e. rw e (elem_there v (owner a) (sources owner interferes u r) h))
        (λ e. rw e h)

    -- what putting it in front adds
    source_added : any (interferes (owner a)) (sources owner interferes u r) ≡ true →
        sources owner interferes u (a ∷ r) ≡ owner a ∷ sources owner interferes u r
    unfolding sources choose
    source_added e = rw e

    pub source_new : (v : ℕ) → elem v (sources owner interferes u (a ∷ r)) ≡ true →
        (elem v (sources owner interferes u r) ≡ true)
        ⊎ ((v ≡ owner a) × (any (interferes (owner a)) (sources owner interferes u r) ≡ true))
    unfolding sources choose
    source_new v h =
        by_test (any (interferes (owner a)) (sources owner interferes u r))
        (λ e. ⊎_elim (λ q. inr (q, e)) (λ q. inl q) (elem_cases v (owner a) _ (rw e at h)))
        (λ e. inl (rw e at h))

    -- an action whose box interferes with a source is kept, and one that is dropped interferes with none
    pub kept_of_lem : any (interferes (owner a)) (sources owner interferes u r) ≡ true → keeps intransitive owner interferes u a r ≡ true
    unfolding keeps
    kept_of_lem e = subst (λ l. elem (owner a) l ≡ true) (sym (source_added e)) (elem_here (owner a) (sources owner interferes u r))

    pub dropped_of : keeps intransitive owner interferes u a r ≡ false → any (interferes (owner a)) (sources owner interferes u r) ≡ false
    dropped_of e = by_test (any (interferes (owner a)) (sources owner interferes u r)) (λ q. not_both (kept_of_lem q) e) (λ q. q)

    -- where its box interferes with itself, that is all there is to it
    pub keeps_is : interferes (owner a) (owner a) ≡ true →
        keeps intransitive owner interferes u a r ≡ any (interferes (owner a)) (sources owner interferes u r)
    unfolding keeps
    keeps_is self =
        agree _ _
        (λ h. ⊎_elim (λ q. any_true _ _ (owner a) q self) (λ q. q.1) (source_new (owner a) h))
        kept_of_lem

  -- the box purged for stays a source
  pub source_first : (r : List ℕ) → elem u (sources owner interferes u r) ≡ true
  source_first [] = source_self
  source_first (a ∷ r) = source_stays a r u (source_first r)

  -- what holds of the box purged for and of the run's boxes holds of every source
  pub source_in : (In : ℕ → Type 0) → In u → (r : List ℕ) → All (λ a. In (owner a)) r → (v : ℕ) → elem v (sources owner interferes u r) ≡ true → In v
  unfolding sources
  source_in In hu [] i v h = subst In (sym (elem_one v u h)) hu
  source_in In hu (a ∷ r) i v h =
      ⊎_elim (λ q. source_in In hu r i.1 v q) (λ q. subst In (sym q.0) i.0) (source_new a r v h)

  module _ (boxes : ℕ) (trans : Transitive boxes interferes) (hu : u < boxes) (self : interferes u u ≡ true) where
    abbrev Inside : List ℕ → Type 0
    Inside r = All (λ a. owner a < boxes) r

    -- Lemma 6
    pub source_interferes : (r : List ℕ) → Inside r → (v : ℕ) → elem v (sources owner interferes u r) ≡ true → interferes v u ≡ true
    unfolding sources
    source_interferes [] i v h = subst (λ x. interferes x u ≡ true) (sym (elem_one v u h)) self
    source_interferes (a ∷ r) i v h =
        ⊎_elim (λ q. source_interferes r i.1 v q)
        (λ q. let f = any_at (interferes (owner a)) (sources owner interferes u r) q.1 in
        let box : f.0 < boxes = source_in (λ x. x < boxes) hu r i.1 f.0 f.1 in
        subst (λ x. interferes x u ≡ true) (sym q.0)
        (trans (owner a) f.0 u i.0 box hu f.2 (source_interferes r i.1 f.0 f.1)))
        (source_new a r v h)

    -- Lemma 7
    keep_agrees : (a : ℕ) (r : List ℕ) → Inside (a ∷ r) → keeps intransitive owner interferes u a r ≡ keeps plain owner interferes u a r
    unfolding keeps
    keep_agrees a r i = agree _ _ (λ h. source_interferes (a ∷ r) i (owner a) h) (λ h. kept_of_lem a r (any_true _ _ u (source_first r) h))

    pub purges_agree : (r : List ℕ) → Inside r → purge (keeps intransitive owner interferes u) r ≡ purge (keeps plain owner interferes u) r
    unfolding purge
    purges_agree [] i = refl
    purges_agree (a ∷ r) i = rw (keep_agrees a r i, purges_agree r i.1)
