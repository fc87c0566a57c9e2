-- Another arrow never hurts: what is secure, or accepted, under a policy is so under every policy with its arrows.
-- Assumes nothing.
use mathlib.Core.Path.{◌≡◌, refl, sym, ◌∙◌, ap, subst}
use mathlib.Core.Logic.{⊎_elim}
use mathlib.Core.Bool.{true, false}
use mathlib.Core.List.{List, [], ◌∷◌}
use Prim.Native.Nat.{ℕ, ◌<◌}
use Rattle.laws.specs.Choice.{choose}
use Rattle.laws.specs.Lists.{All, elem}
use Rattle.laws.proofs.Tests.{by_test, not_both, false_of}
use Rattle.laws.proofs.Lists.{any_true, any_at}
use Rattle.noninterference.specs.Machine.{Machine, Owned, after}
use Rattle.noninterference.specs.Purge.{Policy, Kind, plain, intransitive, purge, sources, keeps}
use Rattle.noninterference.specs.Secure.{Secure}
use Rattle.noninterference.specs.Conditions.{States, Likeness, Respect, Conditions}
use Rattle.noninterference.specs.Needed.{Covers}
use Rattle.noninterference.specs.Extends.{Extends, Absorbs}
use Rattle.noninterference.proofs.Runs.{owners_in, purge_run}
use Rattle.noninterference.proofs.Sources.{source_stays, source_new, source_in, kept_of_lem, dropped_of}

-- ---- purging, for a box and over owners of which some fact holds
module _ (owner : ℕ → ℕ) (In : ℕ → Type 0) (fewer more : Policy)
    (extends : (v u : ℕ) → In v → In u → fewer v u ≡ true → more v u ≡ true) (u : ℕ) (hu : In u) where
  abbrev Inside : List ℕ → Type 0
  Inside r = All (λ a. In (owner a)) r

  -- a source by fewer arrows is one by more
  source_more : (r : List ℕ) → Inside r → (v : ℕ) → elem v (sources owner fewer u r) ≡ true → elem v (sources owner more u r) ≡ true
  unfolding sources keeps
  source_more [] i v h = h
  source_more (a ∷ r) i v h =
      ⊎_elim (λ q. source_stays owner more u a r v (source_more r i.1 v q))
      (λ q. let f = any_at (fewer (owner a)) (sources owner fewer u r) q.1 in
      let x : more (owner a) f.0 ≡ true = extends (owner a) f.0 i.0 (source_in owner fewer u In hu r i.1 f.0 f.1) f.2 in
      subst (λ x. elem x (sources owner more u (a ∷ r)) ≡ true) (sym q.0)
      (kept_of_lem owner more u a r (any_true _ _ f.0 (source_more r i.1 f.0 f.1) x)))
      (source_new owner fewer u a r v h)

  -- an action that more arrows do not keep is not kept by fewer
  dropped_by_fewer : (kind : Kind) (a : ℕ) (r : List ℕ) → Inside (a ∷ r) →
      keeps kind owner more u a r ≡ false → keeps kind owner fewer u a r ≡ false
  unfolding keeps
  dropped_by_fewer plain a r i e = false_of (λ h. not_both (extends (owner a) u i.0 hu h) e)
  dropped_by_fewer intransitive a r i e = false_of (λ h. not_both (source_more (a ∷ r) i (owner a) h) e)

  -- dropping what more arrows do not keep changes no sources by fewer
  abbrev purged : Kind → List ℕ → List ℕ
  purged kind r = purge (keeps kind owner more u) r

  same_sources : (r : List ℕ) → Inside r → sources owner fewer u (purged intransitive r) ≡ sources owner fewer u r
  unfolding sources purge choose
  same_sources [] i = refl
  same_sources (a ∷ r) i =
      by_test (keeps intransitive owner more u a r)
      (λ e. rw (e, same_sources r i.1) refl)
      (λ e. rw (e, dropped_of owner fewer u a r (dropped_by_fewer intransitive a r i e)) (same_sources r i.1))

  same_keeps : (kind : Kind) (a : ℕ) (r : List ℕ) → Inside r → keeps kind owner fewer u a (purged kind r) ≡ keeps kind owner fewer u a r
  unfolding keeps sources
  same_keeps plain a r i = refl
  same_keeps intransitive a r i = rw (same_sources r i) refl

  purged_again : (kind : Kind) (r : List ℕ) → Inside r → purge (keeps kind owner fewer u) (purged kind r) ≡ purge (keeps kind owner fewer u) r
  unfolding purge choose
  purged_again kind [] i = refl
  purged_again kind (a ∷ r) i =
      by_test (keeps kind owner more u a r)
      (λ e. rw (e, same_keeps kind a r i.1, purged_again kind r i.1) refl)
      (λ e. rw (e, dropped_by_fewer kind a r i e) (purged_again kind r i.1))

-- ---- a purge is its own purge: any policy, box and list of actions
all_of : (p : ℕ → Type 0) → ((x : ℕ) → p x) → (r : List ℕ) → All p r
all_of p f [] = tt
all_of p f (a ∷ r) = (f a, all_of p f r)

pub purge_idempotent : (kind : Kind) (owner : ℕ → ℕ) (interferes : Policy) (u : ℕ) (r : List ℕ) →
    purge (keeps kind owner interferes u) (purge (keeps kind owner interferes u) r) ≡ purge (keeps kind owner interferes u) r
purge_idempotent kind owner interferes u r =
    purged_again owner (λ v. Unit {0}) interferes interferes (λ v w _ _ h. h) u tt kind r (all_of _ (λ a. tt) r)

-- ---- the machine
module _ (M : Machine) (fewer more : Policy) (w : Owned M) (x : Extends M fewer more) where
  pub extends_absorbs : (kind : Kind) → Absorbs kind M fewer more
  extends_absorbs kind = record {
    absorbs = λ u hu r hr. purged_again M.owner (λ v. v < M.boxes) fewer more x.extends u hu kind r (owners_in M w r hr);
  }

  -- seen alike after the run, after the run purged by fewer, and so after the run purged by more
  pub extends_secure : (kind : Kind) → Secure kind M fewer → Secure kind M more
  extends_secure kind sec = record {
    equal = λ r hr o ho.
        let u = M.watcher o in
        sec.equal r hr o ho
        ∙ ap (λ l. M.sees (after M l) o) (sym ((extends_absorbs kind).absorbs u (w.watchers o ho) r hr))
        ∙ sym (sec.equal _ (purge_run M (keeps kind M.owner more u) r hr) o ho);
  }

  extends_respect : (S : States) (A : Likeness) → Respect M S fewer A → Respect M S more A
  extends_respect S A h = record {
    respect = λ u a s hu ha hs e. h.respect u a s hu ha hs (false_of (λ p. not_both (x.extends (M.owner a) u (w.owners a ha) hu p) e));
  }

  pub extends_conditions : (kind : Kind) (S : States) (A : Likeness) → Conditions kind M S fewer A → Conditions kind M S more A
  extends_conditions kind S A k = record { output = k.output; respect = extends_respect S A k.respect; step = k.step }

  pub extends_covers : Covers M fewer → Covers M more
  extends_covers c = record { covers = λ v u hv hu n. x.extends v u hv hu (c.covers v u hv hu n) }
