-- The three searches find nothing exactly when the conditions hold; what they find is broken, and nothing earlier is.
-- Assumes nothing.
use mathlib.Core.Path.{◌≡◌, refl, sym, ap}
use mathlib.Core.Logic.{⊎_elim, ◌↔◌, by_cases}
use mathlib.Core.Bool.{Bool, true, not}
use mathlib.Core.List.{List, [], ◌∷◌}
use mathlib.Core.Option.{Option, none, some}
use Prim.Native.Nat.{ℕ, ◌<◌}
use native.Mathlib.Omega.{arith}
use native.Mathlib.Decide.{ℕ_discrete}
use lib.Dec.{ltb}
use lib.ListN.{get_or}
use borrow.Author.Tests.{eqb-true, eqb-false, eq-eqb, ne_eqb, ltb-true, lt-ltb, not-true}
use Rattle.laws.specs.Choice.{or_else}
use Rattle.laws.specs.Order.{Earlier}
use Rattle.laws.proofs.Tests.{both_of, both_true, without_of, without_true}
use Rattle.laws.proofs.Range.{by_order}
use Rattle.laws.proofs.Search.{or_none, or_some}
use Rattle.laws.proofs.Nested.{Searched, Below, Guarded, Here, searched_range, searched_when, searched_flag}
use Rattle.noninterference.specs.Machine.{Machine}
use Rattle.noninterference.specs.Purge.{Policy, Kind, plain, intransitive}
use Rattle.noninterference.specs.Conditions.{States, ByView, Output, Respect, Step, Conditions}
use Rattle.noninterference.specs.Place.{Place, output, respect, step, Before, AlikeToo, Breaks, FirstBroken, OfOutput, OfRespect, OfStep, OfAny}
use Rattle.noninterference.specs.Judged.{leaks, moves, alike_too, tears, first_state, first_pair, first_output, first_respect, first_step, judged}

-- ---- the searches over states
abbrev InState : ℕ → (ℕ → Bool) → (ℕ → List ℕ → Type 0) → List ℕ → Type 0
InState states counts B = Below states (λ s. Guarded (counts s) (B s))

abbrev InPair : ℕ → (ℕ → Bool) → (ℕ → ℕ → List ℕ → Type 0) → List ℕ → Type 0
InPair states counts B = InState states counts (λ s. InState states counts (λ t. Guarded (ltb s t) (B s t)))

searched_state : (states : ℕ) (counts : ℕ → Bool) (f : ℕ → Option Place) (B : ℕ → List ℕ → Type 0) (at : List ℕ → Place) →
    ((s : ℕ) → Searched (B s) (λ q. at (s ∷ q)) (f s)) → Searched (InState states counts B) at (first_state states counts f)
searched_state states counts f B at h =
    searched_range states _ _ at (λ s. searched_when (counts s) (f s) (B s) (λ q. at (s ∷ q)) (h s))

searched_pair : (states : ℕ) (counts : ℕ → Bool) (f : ℕ → ℕ → Option Place) (B : ℕ → ℕ → List ℕ → Type 0) (at : List ℕ → Place) →
    ((s t : ℕ) → Searched (B s t) (λ q. at (s ∷ t ∷ q)) (f s t)) → Searched (InPair states counts B) at (first_pair states counts f)
searched_pair states counts f B at h =
    searched_state states counts _ _ at λ s. searched_state states counts _ _ (λ q. at (s ∷ q)) λ t.
    searched_when (ltb s t) (f s t) (B s t) (λ q. at (s ∷ t ∷ q)) (h s t)

-- ---- the step condition of either kind
abbrev StepFor : Kind → Machine → States → (ℕ → ℕ → ℕ) → Type 0
StepFor kind M S view =
    (u a s t : ℕ) → u < M.boxes → a < M.actions → S s → S t → view u s ≡ view u t → AlikeToo kind M view a s t →
    view u (M.step s a) ≡ view u (M.step t a)

step_is : (kind : Kind) (M : Machine) (S : States) (view : ℕ → ℕ → ℕ) → Step kind M S (ByView view) ↔ StepFor kind M S view
step_is plain M S view =
    (λ h u a s t hu ha hs ht e k. h.step u a s t hu ha hs ht e, λ h. record { step = λ u a s t hu ha hs ht e. h u a s t hu ha hs ht e tt })
step_is intransitive M S view = (λ h. h.step, λ h. record { step = h })

also_turned : (kind : Kind) (M : Machine) (view : ℕ → ℕ → ℕ) (a s t : ℕ) → AlikeToo kind M view a s t → AlikeToo kind M view a t s
also_turned plain M view a s t h = tt
also_turned intransitive M view a s t h = sym h

also_is : (kind : Kind) (M : Machine) (view : ℕ → ℕ → ℕ) (a s t : ℕ) → (alike_too kind M view a s t ≡ true) ↔ AlikeToo kind M view a s t
unfolding alike_too
also_is plain M view a s t = (λ e. tt, λ e. refl)
also_is intransitive M view a s t = (λ e. eqb-true _ _ e, λ e. eq-eqb _ _ e)

module _ (kind : Kind) (M : Machine) (counts : ℕ → Bool) (S : States) (h_s : (s : ℕ) → S s ↔ ((s < M.states) × (counts s ≡ true)))
    (interferes : Policy) (view : ℕ → ℕ → ℕ) where
  abbrev Broken : Place → Type 0
  Broken = Breaks kind M S interferes view

  -- ---- each search is right by itself
  abbrev BadOutput : List ℕ → Type 0
  BadOutput = Below M.observers (λ o. InPair M.states counts (λ s t. Here (leaks M view o s t)))

  abbrev BadRespect : List ℕ → Type 0
  BadRespect =
      Below M.boxes (λ u. Below M.actions (λ a.
      Guarded (not (interferes (M.owner a) u)) (InState M.states counts (λ s. Here (moves M view u a s)))))

  abbrev BadStep : List ℕ → Type 0
  BadStep = Below M.boxes (λ u. Below M.actions (λ a. InPair M.states counts (λ s t. Here (tears kind M view u a s t))))

  abbrev output_at : List ℕ → Place
  output_at q = output (get_or q 0 0) (get_or q 1 0) (get_or q 2 0)

  abbrev respect_at : List ℕ → Place
  respect_at q = respect (get_or q 0 0) (get_or q 1 0) (get_or q 2 0)

  abbrev step_at : List ℕ → Place
  step_at q = step (get_or q 0 0) (get_or q 1 0) (get_or q 2 0) (get_or q 3 0)

  output_searched : Searched BadOutput output_at (first_output M counts view)
  unfolding first_output
  output_searched =
      searched_range M.observers _ _ output_at λ o. searched_pair M.states counts _ _ (λ q. output_at (o ∷ q)) λ s t.
      searched_flag (leaks M view o s t) (λ q. output_at (o ∷ s ∷ t ∷ q))

  respect_searched : Searched BadRespect respect_at (first_respect M counts interferes view)
  unfolding first_respect
  respect_searched =
      searched_range M.boxes _ _ respect_at λ u. searched_range M.actions _ _ (λ q. respect_at (u ∷ q)) λ a.
      searched_when (not (interferes (M.owner a) u)) _ _ (λ q. respect_at (u ∷ a ∷ q))
      (searched_state M.states counts _ _ (λ q. respect_at (u ∷ a ∷ q)) λ s.
      searched_flag (moves M view u a s) (λ q. respect_at (u ∷ a ∷ s ∷ q)))

  step_searched : Searched BadStep step_at (first_step kind M counts view)
  unfolding first_step
  step_searched =
      searched_range M.boxes _ _ step_at λ u. searched_range M.actions _ _ (λ q. step_at (u ∷ q)) λ a.
      searched_pair M.states counts _ _ (λ q. step_at (u ∷ a ∷ q)) λ s t.
      searched_flag (tears kind M view u a s t) (λ q. step_at (u ∷ a ∷ s ∷ t ∷ q))

  -- ---- a place is bad for a search exactly when its condition is broken there
  output_bad : (o s t : ℕ) → BadOutput (o ∷ s ∷ t ∷ []) ↔ Broken (output o s t)
  unfolding leaks
  output_bad o s t = (
    λ b. let w = without_true _ _ b.1.1.1.1.1.1 in
        (b.0, ltb-true s t b.1.1.1.1.1.0, (h_s s).1 (b.1.0, b.1.1.0), (h_s t).1 (b.1.1.1.0, b.1.1.1.1.0), eqb-true _ _ w.0, eqb-false _ _ w.1),
    λ b. let hs = (h_s s).0 b.2 in let ht = (h_s t).0 b.3 in
        (b.0, (hs.0, (hs.1, (ht.0, (ht.1, (lt-ltb s t b.1, without_of (eq-eqb _ _ b.4) (ne_eqb _ _ b.5))))))),
  )

  respect_bad : (u a s : ℕ) → BadRespect (u ∷ a ∷ s ∷ []) ↔ Broken (respect u a s)
  unfolding moves
  respect_bad u a s = (
    λ b. (b.0, b.1.0, (h_s s).1 (b.1.1.1.0, b.1.1.1.1.0), not-true _ b.1.1.0, eqb-false _ _ (not-true _ b.1.1.1.1.1)),
    λ b. let hs = (h_s s).0 b.2 in (b.0, (b.1, (ap not b.3, (hs.0, (hs.1, ap not (ne_eqb _ _ b.4)))))),
  )

  step_bad : (u a s t : ℕ) → BadStep (u ∷ a ∷ s ∷ t ∷ []) ↔ Broken (step u a s t)
  unfolding tears
  step_bad u a s t = (
    λ b. let w = without_true _ _ b.1.1.1.1.1.1.1 in let l = both_true _ _ w.0 in (
      b.0,
      b.1.0,
      ltb-true s t b.1.1.1.1.1.1.0,
      (h_s s).1 (b.1.1.0, b.1.1.1.0),
      (h_s t).1 (b.1.1.1.1.0, b.1.1.1.1.1.0),
      eqb-true _ _ l.0,
      (also_is kind M view a s t).0 l.1,
      eqb-false _ _ w.1,
    ),
    λ b. let hs = (h_s s).0 b.3 in let ht = (h_s t).0 b.4 in (
      b.0,
      (
        b.1,
        (
          hs.0,
          (
            hs.1,
            (
              ht.0,
              (
                ht.1,
                (
                  lt-ltb s t b.2,
                  without_of (both_of (eq-eqb _ _ b.5) ((also_is kind M view a s t).1 b.6)) (ne_eqb _ _ b.7),
                ),
              ),
            ),
          ),
        ),
      ),
    ),
  )

  -- ---- what is found is broken, and nothing of that condition before it is
  output_from_lem : (q : List ℕ) → BadOutput q → ((p : List ℕ) → Earlier p q → BadOutput p → ⊥) →
      FirstBroken kind M S interferes view OfOutput (output_at q)
  output_from_lem [] b f = absurd b
  output_from_lem (o ∷ []) b f = absurd b.1
  output_from_lem (o ∷ s ∷ []) b f = absurd b.1.1.1
  output_from_lem (o ∷ s ∷ t ∷ x ∷ q) b f = absurd b.1.1.1.1.1.1
  output_from_lem (o ∷ s ∷ t ∷ []) b f = record { inside = tt; breaks = (output_bad o s t).0 b; none_before = none }
    where
      none : (p : Place) → OfOutput p → Before p (output o s t) → Broken p → ⊥
      none (output o' s' t') i l k = ⊎_elim (λ h. omega arith) (λ h. f (o' ∷ s' ∷ t' ∷ []) h.1 ((output_bad o' s' t').1 k)) l
      none (respect u a s) i l k = i
      none (step u a s t) i l k = i

  respect_from_lem : (q : List ℕ) → BadRespect q → ((p : List ℕ) → Earlier p q → BadRespect p → ⊥) →
      FirstBroken kind M S interferes view OfRespect (respect_at q)
  respect_from_lem [] b f = absurd b
  respect_from_lem (u ∷ []) b f = absurd b.1
  respect_from_lem (u ∷ a ∷ []) b f = absurd b.1.1.1
  respect_from_lem (u ∷ a ∷ s ∷ x ∷ q) b f = absurd b.1.1.1.1.1
  respect_from_lem (u ∷ a ∷ s ∷ []) b f = record { inside = tt; breaks = (respect_bad u a s).0 b; none_before = none }
    where
      none : (p : Place) → OfRespect p → Before p (respect u a s) → Broken p → ⊥
      none (output o s t) i l k = i
      none (respect u' a' s') i l k = ⊎_elim (λ h. omega arith) (λ h. f (u' ∷ a' ∷ s' ∷ []) h.1 ((respect_bad u' a' s').1 k)) l
      none (step u a s t) i l k = i

  step_from_lem : (q : List ℕ) → BadStep q → ((p : List ℕ) → Earlier p q → BadStep p → ⊥) →
      FirstBroken kind M S interferes view OfStep (step_at q)
  step_from_lem [] b f = absurd b
  step_from_lem (u ∷ []) b f = absurd b.1
  step_from_lem (u ∷ a ∷ []) b f = absurd b.1.1
  step_from_lem (u ∷ a ∷ s ∷ []) b f = absurd b.1.1.1.1
  step_from_lem (u ∷ a ∷ s ∷ t ∷ x ∷ q) b f = absurd b.1.1.1.1.1.1.1
  step_from_lem (u ∷ a ∷ s ∷ t ∷ []) b f = record { inside = tt; breaks = (step_bad u a s t).0 b; none_before = none }
    where
      none : (p : Place) → OfStep p → Before p (step u a s t) → Broken p → ⊥
      none (output o s t) i l k = i
      none (respect u a s) i l k = i
      none (step u' a' s' t') i l k = ⊎_elim (λ h. omega arith) (λ h. f (u' ∷ a' ∷ s' ∷ t' ∷ []) h.1 ((step_bad u' a' s' t').1 k)) l

  pub output_first : (p : Place) → first_output M counts view ≡ some p → FirstBroken kind M S interferes view OfOutput p
  output_first p e = let f = output_searched.found p e in rw f.is at (output_from_lem f.place f.bad f.first)

  pub respect_first : (p : Place) → first_respect M counts interferes view ≡ some p → FirstBroken kind M S interferes view OfRespect p
  respect_first p e = let f = respect_searched.found p e in rw f.is at (respect_from_lem f.place f.bad f.first)

  pub step_first : (p : Place) → first_step kind M counts view ≡ some p → FirstBroken kind M S interferes view OfStep p
  step_first p e = let f = step_searched.found p e in rw f.is at (step_from_lem f.place f.bad f.first)

  -- ---- nothing is found exactly when the condition holds
  nothing : (r : Option Place) → ((p : Place) → r ≡ some p → ⊥) → r ≡ none
  nothing none h = refl
  nothing (some p) h = absurd (h p refl)

  pub output_none : (first_output M counts view ≡ none) ↔ Output M S (ByView view)
  output_none = (
    λ h. record {
      output = λ o s t ho hs ht e.
          let at : (s t : ℕ) → s < t → S s → S t → view (M.watcher o) s ≡ view (M.watcher o) t → M.sees s o ≡ M.sees t o =
          λ s t l hs ht e. by_cases (ℕ_discrete (M.sees s o) (M.sees t o)) (λ q. q)
          (λ q. absurd (output_searched.clear h (o ∷ s ∷ t ∷ []) ((output_bad o s t).1 (ho, l, hs, ht, e, q)))) in
          by_order s t (λ l. at s t l hs ht e) (λ l. sym (at t s l ht hs (sym e))) (λ q. ap (λ x. M.sees x o) q);
    },
    λ h. nothing _ (λ p e. unbroken h p (output_first p e).inside (output_first p e).breaks),
  )
    where
      unbroken : Output M S (ByView view) → (p : Place) → OfOutput p → Broken p → ⊥
      unbroken h (output o s t) i b = b.5 (h.output o s t b.0 b.2 b.3 b.4)
      unbroken h (respect u a s) i b = i
      unbroken h (step u a s t) i b = i

  pub respect_none : (first_respect M counts interferes view ≡ none) ↔ Respect M S interferes (ByView view)
  respect_none = (
    λ h. record {
      respect = λ u a s hu ha hs e. by_cases (ℕ_discrete (view u s) (view u (M.step s a))) (λ q. q)
          (λ q. absurd (respect_searched.clear h (u ∷ a ∷ s ∷ []) ((respect_bad u a s).1 (hu, ha, hs, e, q))));
    },
    λ h. nothing _ (λ p e. unbroken h p (respect_first p e).inside (respect_first p e).breaks),
  )
    where
      unbroken : Respect M S interferes (ByView view) → (p : Place) → OfRespect p → Broken p → ⊥
      unbroken h (output o s t) i b = i
      unbroken h (respect u a s) i b = b.4 (h.respect u a s b.0 b.1 b.2 b.3)
      unbroken h (step u a s t) i b = i

  pub step_none : (first_step kind M counts view ≡ none) ↔ Step kind M S (ByView view)
  step_none = (
    λ h. (step_is kind M S view).1 λ u a s t hu ha hs ht e k.
        let at : (s t : ℕ) → s < t → S s → S t → view u s ≡ view u t → AlikeToo kind M view a s t →
        view u (M.step s a) ≡ view u (M.step t a) =
        λ s t l hs ht e k. by_cases (ℕ_discrete (view u (M.step s a)) (view u (M.step t a))) (λ q. q)
        (λ q. absurd (step_searched.clear h (u ∷ a ∷ s ∷ t ∷ []) ((step_bad u a s t).1 (hu, ha, l, hs, ht, e, k, q)))) in
        by_order s t (λ l. at s t l hs ht e k) (λ l. sym (at t s l ht hs (sym e) (also_turned kind M view a s t k)))
        (λ q. ap (λ x. view u (M.step x a)) q),
    λ h. nothing _ (λ p e. unbroken h p (step_first p e).inside (step_first p e).breaks),
  )
    where
      unbroken : Step kind M S (ByView view) → (p : Place) → OfStep p → Broken p → ⊥
      unbroken h (output o s t) i b = i
      unbroken h (respect u a s) i b = i
      unbroken h (step u a s t) i b = b.7 ((step_is kind M S view).0 h u a s t b.0 b.1 b.3 b.4 b.5 b.6)

  -- ---- the judgement: the first of the three
  pub accepted : (judged kind M counts interferes view ≡ none) ↔ Conditions kind M S interferes (ByView view)
  unfolding judged or_else
  accepted = (
    λ h. let a = or_none _ _ h in let b = or_none _ _ a.1 in
        record { output = output_none.0 a.0; respect = respect_none.0 b.0; step = step_none.0 b.1 },
    λ h. rw (output_none.1 h.output, respect_none.1 h.respect, step_none.1 h.step),
  )

  pub first_broken_lem : (p : Place) → judged kind M counts interferes view ≡ some p → FirstBroken kind M S interferes view OfAny p
  unfolding judged
  first_broken_lem p e =
      ⊎_elim (λ h. from_output p (output_first p h))
      (λ h. ⊎_elim (λ g. from_respect h.0 p (respect_first p g)) (λ g. from_step h.0 g.0 p (step_first p g.1)) (or_some _ _ p h.1))
      (or_some _ _ p e)
    where
      no_output : first_output M counts view ≡ none → (o s t : ℕ) → Broken (output o s t) → ⊥
      no_output h o s t b = output_searched.clear h (o ∷ s ∷ t ∷ []) ((output_bad o s t).1 b)

      no_respect : first_respect M counts interferes view ≡ none → (u a s : ℕ) → Broken (respect u a s) → ⊥
      no_respect h u a s b = respect_searched.clear h (u ∷ a ∷ s ∷ []) ((respect_bad u a s).1 b)

      from_output : (p : Place) → FirstBroken kind M S interferes view OfOutput p → FirstBroken kind M S interferes view OfAny p
      from_output (output o s t) f = record { inside = tt; breaks = f.breaks; none_before = before }
        where
          before : (q : Place) → OfAny q → Before q (output o s t) → Broken q → ⊥
          before (output o' s' t') i l b = f.none_before (output o' s' t') tt l b
          before (respect u a s) i l b = ⊎_elim (λ h. omega arith) (λ h. omega arith) l
          before (step u a s t) i l b = ⊎_elim (λ h. omega arith) (λ h. omega arith) l
      from_output (respect u a s) f = absurd f.inside
      from_output (step u a s t) f = absurd f.inside

      from_respect : first_output M counts view ≡ none → (p : Place) → FirstBroken kind M S interferes view OfRespect p →
          FirstBroken kind M S interferes view OfAny p
      from_respect clear (output o s t) f = absurd f.inside
      from_respect clear (respect u a s) f = record { inside = tt; breaks = f.breaks; none_before = before }
        where
          before : (q : Place) → OfAny q → Before q (respect u a s) → Broken q → ⊥
          before (output o s t) i l b = no_output clear o s t b
          before (respect u' a' s') i l b = f.none_before (respect u' a' s') tt l b
          before (step u a s t) i l b = ⊎_elim (λ h. omega arith) (λ h. omega arith) l
      from_respect clear (step u a s t) f = absurd f.inside

      from_step : first_output M counts view ≡ none → first_respect M counts interferes view ≡ none → (p : Place) →
          FirstBroken kind M S interferes view OfStep p → FirstBroken kind M S interferes view OfAny p
      from_step clear clear' (output o s t) f = absurd f.inside
      from_step clear clear' (respect u a s) f = absurd f.inside
      from_step clear clear' (step u a s t) f = record { inside = tt; breaks = f.breaks; none_before = before }
        where
          before : (q : Place) → OfAny q → Before q (step u a s t) → Broken q → ⊥
          before (output o s t) i l b = no_output clear o s t b
          before (respect u a s) i l b = no_respect clear' u a s b
          before (step u' a' s' t') i l b = f.none_before (step u' a' s' t') tt l b
