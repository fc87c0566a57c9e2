-- The walk with its sets keeps what the definitions keep.
-- Assumes nothing.
use mathlib.Core.Path.{◌≡◌, refl, sym, ◌∙◌, ap}
use mathlib.Core.Bool.{Bool, true, false}
use mathlib.Core.List.{List, [], ◌∷◌}
use Prim.Native.Nat.{ℕ, ◌<◌, ◌≤◌}
use native.Mathlib.Omega.{arith}
use lib.Bits.{or_zero_r}
use lib.ListN.{get_or}
use borrow.Author.Tests.{ne_eqb}
use Rattle.laws.specs.Choice.{choose, either}
use Rattle.laws.specs.Lists.{All, any}
use Rattle.laws.proofs.Tests.{by_test}
use Rattle.noninterference.specs.Purge.{Policy, plain, intransitive, purge, sources, keeps}
use Rattle.noninterference.proofs.Sources.{keeps_is}
use Rattle.model.specs.Limits.{BOXES, ACTIONS}
use Rattle.laws.specs.Sets.{has, pack}
use Rattle.purge.specs.Sets.{touching, touches, marked, present}
use Rattle.laws.proofs.Sets.{has_or, has_pack}

either_swap : (a b : Bool) → either a b ≡ either b a
unfolding either
either_swap true true = refl
either_swap true false = refl
either_swap false true = refl
either_swap false false = refl

either_none : (a : Bool) → a ≡ either a false
unfolding either
either_none true = refl
either_none false = refl

-- ---- tests that agree on a run's actions keep the same
marked_same : (A : ℕ → Type 0) (keep keep' : ℕ → List ℕ → Bool) →
    ((a : ℕ) (r : List ℕ) → A a → All A r → keep a r ≡ keep' a r) → (r : List ℕ) → All A r → marked keep r ≡ marked keep' r
unfolding marked
marked_same A keep keep' h [] hr = refl
marked_same A keep keep' h (a ∷ r) hr = rw (h a r hr.0 hr.1, marked_same A keep keep' h r hr.1)

-- no action is 255
pub present_marked : (keep : ℕ → List ℕ → Bool) (actions : ℕ) → actions ≤ ACTIONS → (r : List ℕ) → All (λ a. a < actions) r →
    present (marked keep r) ≡ purge keep r
unfolding marked present purge choose
present_marked keep actions l [] hr = refl
present_marked keep actions l (a ∷ r) hr =
    let b : a < actions = hr.0 in
    by_test (keep a r)
    (λ e. rw (e, ne_eqb a 255 (λ q. omega arith)) (ap (λ l. a ∷ l) (present_marked keep actions l r hr.1)))
    (λ e. rw e (present_marked keep actions l r hr.1))

module _ (owners : List ℕ) (interferes : Policy) (actions u : ℕ) (target : ℕ) (small : actions ≤ ACTIONS)
    (owned : (a : ℕ) → a < actions → get_or owners a 0 < BOXES) (aimed : target ≡ pack (λ v. interferes v u) 0 BOXES) where
  abbrev owner : ℕ → ℕ
  owner a = get_or owners a 0

  target_has : (v : ℕ) → v < BOXES → has target v ≡ interferes v u
  target_has v l = ap (λ t. has t v) aimed ∙ has_pack (λ v. interferes v u) BOXES 0 v l ∙ ap (λ k. interferes k u) (omega arith)

  -- ---- plain: no set is added
  module _ (into : List ℕ) (none : (w : ℕ) → get_or into w 0 ≡ 0) where
    touching_plain : (r : List ℕ) → touching owners into target r ≡ target
    unfolding touching choose
    touching_plain [] = refl
    touching_plain (a ∷ r) =
        by_test (has (touching owners into target r) (owner a))
        (λ e. rw (e, none (owner a), or_zero_r) (touching_plain r)) (λ e. rw e (touching_plain r))

    pub kept_plain : (r : List ℕ) → All (λ a. a < actions) r →
        present (marked (touches owners into target) r) ≡ purge (keeps plain owner interferes u) r
    unfolding touches keeps
    kept_plain r hr =
        ap present (marked_same (λ a. a < actions) _ _ (λ a r ha _. ap (λ t. has t (owner a)) (touching_plain r) ∙ target_has (owner a) (owned a ha)) r hr)
        ∙ present_marked (keeps plain owner interferes u) actions small r hr

  -- ---- intransitive: a source adds the boxes that interfere with it
  module _ (into : List ℕ) (sets : (w : ℕ) → w < BOXES → get_or into w 0 ≡ pack (λ v. interferes v w) 0 BOXES)
      (self : (a : ℕ) → a < actions → interferes (owner a) (owner a) ≡ true) where
    into_has : (w v : ℕ) → w < BOXES → v < BOXES → has (get_or into w 0) v ≡ interferes v w
    into_has w v lw lv = ap (λ t. has t v) (sets w lw) ∙ has_pack (λ v. interferes v w) BOXES 0 v lv ∙ ap (λ k. interferes k w) (omega arith)

    touching_sources : (r : List ℕ) → All (λ a. a < actions) r → (v : ℕ) → v < BOXES →
        has (touching owners into target r) v ≡ any (interferes v) (sources owner interferes u r)
    unfolding touching sources any choose
    touching_sources [] hr v l = target_has v l ∙ either_none (interferes v u)
    touching_sources (a ∷ r) hr v l =
        let at : has (touching owners into target r) (owner a) ≡ any (interferes (owner a)) (sources owner interferes u r) =
        touching_sources r hr.1 (owner a) (owned a hr.0) in
        by_test (has (touching owners into target r) (owner a))
        (λ e. rw (e, sym at ∙ e)
        (has_or (touching owners into target r) (get_or into (owner a) 0) v
        ∙ ap (λ b. either b (has (get_or into (owner a) 0) v)) (touching_sources r hr.1 v l)
        ∙ ap (λ b. either (any (interferes v) (sources owner interferes u r)) b) (into_has (owner a) v (owned a hr.0) l)
        ∙ either_swap (any (interferes v) (sources owner interferes u r)) (interferes v (owner a))))
        (λ e. rw (e, sym at ∙ e) (touching_sources r hr.1 v l))

    pub kept_intransitive : (r : List ℕ) → All (λ a. a < actions) r →
        present (marked (touches owners into target) r) ≡ purge (keeps intransitive owner interferes u) r
    unfolding touches
    kept_intransitive r hr =
        ap present (marked_same (λ a. a < actions) _ _
        (λ a r ha hr. touching_sources r hr (owner a) (owned a ha) ∙ sym (keeps_is owner interferes u a r (self a ha))) r hr)
        ∙ present_marked (keeps intransitive owner interferes u) actions small r hr
