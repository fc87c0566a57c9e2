-- Where views are accepted every needed arrow is drawn, or has a path of drawn arrows: a machine that is intransitively secure is plainly
-- secure under every policy that holds the drawn arrows and goes on along them.
-- Assumes nothing.
use mathlib.Core.Path.{◌≡◌, refl, sym, ap, ◌∙◌, subst}
use mathlib.Core.Logic.{◌⊎◌, inl, inr, ⊎_elim, ◌↔◌}
use mathlib.Core.Bool.{true}
use mathlib.Core.List.{List, [], ◌∷◌}
use Prim.Native.Nat.{ℕ, ◌<◌}
use Rattle.laws.specs.Choice.{choose}
use Rattle.laws.specs.Lists.{All, any, elem}
use Rattle.laws.proofs.Tests.{by_test, not_both}
use Rattle.laws.proofs.Lists.{elem_one, any_at}
use Rattle.noninterference.specs.Machine.{Machine, Owned, Closed, Run, run, after, Reachable}
use Rattle.noninterference.specs.Purge.{Policy, plain, intransitive, purge, sources, keeps}
use Rattle.noninterference.specs.Secure.{Secure, Reflexive}
use Rattle.noninterference.specs.Conditions.{States, Likeness, Equivalence, Conditions}
use Rattle.noninterference.specs.Needed.{Needed}
use Rattle.noninterference.specs.Reached.{Reach, reached}
use Rattle.noninterference.specs.Path.{Path, drawn, onward, walker, leads}
use Rattle.noninterference.proofs.Runs.{owners_in, purge_run, reachable_closed}
use Rattle.noninterference.proofs.Sources.{source_new, source_in}
use Rattle.noninterference.proofs.Unwinding.{unwinding}
use Rattle.noninterference.proofs.Needed.{secure↔covers}
use Rattle.noninterference.proofs.Reached.{reach}

-- between boxes below a count, a drawn arrow to where a path to u starts makes a path to u
abbrev pub Onward : ℕ → Policy → Policy → Type 0
Onward boxes interferes paths =
    (v w u : ℕ) → v < boxes → w < boxes → u < boxes → interferes v w ≡ true → paths w u ≡ true → paths v u ≡ true

-- ---- any policy that goes on along the drawn arrows
module _ (owner : ℕ → ℕ) (boxes : ℕ) (interferes paths : Policy) (u : ℕ) (hu : u < boxes) (self : paths u u ≡ true)
    (go_on : Onward boxes interferes paths) where
  abbrev Inside : List ℕ → Type 0
  Inside r = All (λ a. owner a < boxes) r

  abbrev plainly : List ℕ → List ℕ
  plainly r = purge (keeps plain owner paths u) r

  abbrev from : List ℕ → List ℕ
  from r = sources owner interferes u r

  -- from every source a path leads to u
  source_path : (r : List ℕ) → Inside r → (v : ℕ) → elem v (from r) ≡ true → paths v u ≡ true
  unfolding sources
  source_path [] i v h = subst (λ x. paths x u ≡ true) (sym (elem_one v u h)) self
  source_path (a ∷ r) i v h =
      ⊎_elim (λ q. source_path r i.1 v q)
      (λ q. let f = any_at (interferes (owner a)) (from r) q.1 in
      let box : f.0 < boxes = source_in owner interferes u (λ x. x < boxes) hu r i.1 f.0 f.1 in
      subst (λ x. paths x u ≡ true) (sym q.0) (go_on (owner a) f.0 u i.0 box hu f.2 (source_path r i.1 f.0 f.1)))
      (source_new owner interferes u a r v h)

  -- and so from a box that interferes with one
  to_source_path : (r : List ℕ) → Inside r → (v : ℕ) → v < boxes → any (interferes v) (from r) ≡ true → paths v u ≡ true
  to_source_path r i v hv e =
      let f = any_at (interferes v) (from r) e in
      go_on v f.0 u hv (source_in owner interferes u (λ x. x < boxes) hu r i f.0 f.1) hu f.2 (source_path r i f.0 f.1)

  -- dropping what has no path to u changes no sources, and nothing that is kept
  same_sources : (r : List ℕ) → Inside r → from (plainly r) ≡ from r
  unfolding sources purge keeps choose
  same_sources [] i = refl
  same_sources (a ∷ r) i =
      by_test (paths (owner a) u)
      (λ e. rw (e, same_sources r i.1) refl)
      (λ e. by_test (any (interferes (owner a)) (from r))
      (λ f. not_both (to_source_path r i.1 (owner a) i.0 f) e)
      (λ f. rw (e, f) (same_sources r i.1)))

  abbrev intransitively : List ℕ → List ℕ
  intransitively r = purge (keeps intransitive owner interferes u) r

  front : (a : ℕ) (r : List ℕ) → Inside r → from (a ∷ plainly r) ≡ from (a ∷ r)
  unfolding sources
  front a r i = rw (same_sources r i) refl

  same_kept : (r : List ℕ) → Inside r → intransitively (plainly r) ≡ intransitively r
  unfolding purge keeps choose
  same_kept [] i = refl
  same_kept (a ∷ r) i =
      by_test (paths (owner a) u)
      (λ e. rw (e, front a r i.1, same_kept r i.1) refl)
      (λ e. by_test (elem (owner a) (from (a ∷ r)))
      (λ f. not_both (source_path (a ∷ r) i (owner a) f) e)
      (λ f. rw (e, f) (same_kept r i.1)))

module _ (M : Machine) (interferes paths : Policy) (self : Reflexive M paths) (go_on : Onward M.boxes interferes paths) (w : Owned M) where
  pub secure_onward : Secure intransitive M interferes → Secure plain M paths
  secure_onward s = record {
    equal = λ r hr o lo.
        let u = M.watcher o in
        let hu : M.watcher o < M.boxes = w.watchers o lo in
        let k = same_kept M.owner M.boxes interferes paths u hu (self u hu) go_on r (owners_in M w r hr) in
        let h = s.equal (purge (keeps plain M.owner paths u) r) (purge_run M (keeps plain M.owner paths u) r hr) o lo in
        s.equal r hr o lo ∙ ap (λ q. M.sees (after M q) o) (sym k) ∙ sym h;
  }

  pub needed_onward : Secure intransitive M interferes → (v u : ℕ) → v < M.boxes → u < M.boxes → Needed M v u → paths v u ≡ true
  needed_onward s = ((secure↔covers M paths w self).0 (secure_onward s)).covers

-- ---- the paths themselves
module _ (boxes : ℕ) (interferes : Policy) where
  abbrev walks : ℕ → Machine
  walks v = walker boxes interferes v

  walker_closed : (v : ℕ) → v < boxes → Closed (walks v) (λ s. s < boxes)
  unfolding choose
  walker_closed v hv = record {
    first = hv;
    next = λ s w hs hw. by_test (interferes s w) (λ e. rw e hw) (λ e. rw e hs);
  }

  -- where a walk ends does not depend on where the machine would start
  same_walk : (v w s : ℕ) (r : List ℕ) → run (walks v) s r ≡ run (walks w) s r
  unfolding run
  same_walk v w s [] = refl
  same_walk v w s (a ∷ r) = same_walk v w (choose (interferes s a) a s) r

  -- a walk that leaves its first box goes along a path
  along : (x v u : ℕ) (r : List ℕ) → v < boxes → Run (walks x) r → run (walks x) v r ≡ u → (v ≡ u) ⊎ Path boxes interferes v u
  unfolding run choose
  along x v u [] hv hr e = inl e
  along x v u (a ∷ r) hv hr e =
      by_test (interferes v a)
      (λ t. inr (⊎_elim (λ q. drawn v u hv (subst (λ y. y < boxes) q hr.0) (subst (λ y. interferes v y ≡ true) q t))
      (λ p. onward v a u hv hr.0 t p) (along x a u r hr.0 hr.1 (rw t at e))))
      (λ t. along x v u r hv hr.1 (rw t at e))

  -- and every path is a walk
  walk_first : (v w u : ℕ) → w < boxes → interferes v w ≡ true → Reachable (walks w) u → Reachable (walks v) u
  unfolding run choose
  walk_first v w u hw e h = record {
    by = w ∷ h.by;
    is_run = (hw, h.is_run);
    ends = rw e (same_walk v w w h.by ∙ h.ends);
  }

  path_walk : {v u : ℕ} → Path boxes interferes v u → Reachable (walks v) u
  path_walk (drawn v u hv hu e) = walk_first v u u hu e (reachable_closed (walks u)).first
  path_walk (onward v w u hv hw e p) = walk_first v w u hw e (path_walk p)

  -- the test says what it should
  pub leads_says : (v u : ℕ) → v < boxes → u < boxes → (leads boxes interferes v u ≡ true) ↔ ((v ≡ u) ⊎ Path boxes interferes v u)
  unfolding leads
  leads_says v u hv hu =
      let f : Reach (walks v) (reached (walks v)) = reach (walks v) (walker_closed v hv) in (
        λ e. let h = f.right u hu e in along v v u h.by hv h.is_run h.ends,
        λ c. f.all u (⊎_elim (λ q. subst (Reachable (walks v)) q (reachable_closed (walks v)).first) path_walk c),
      )

  leads_self : (u : ℕ) → u < boxes → leads boxes interferes u u ≡ true
  leads_self u hu = (leads_says u u hu hu).1 (inl refl)

  leads_onward : Onward boxes interferes (leads boxes interferes)
  leads_onward v w u hv hw hu e l =
      (leads_says v u hv hu).1
      (inr (⊎_elim (λ q. drawn v u hv hu (subst (λ x. interferes v x ≡ true) q e)) (onward v w u hv hw e) ((leads_says w u hw hu).0 l)))

module _ (M : Machine) (interferes : Policy) (w : Owned M) where
  -- a needed arrow along which no drawn path leads shuts out that any views are accepted
  pub needed_path : Secure intransitive M interferes → (v u : ℕ) → v < M.boxes → u < M.boxes → Needed M v u → Path M.boxes interferes v u
  needed_path s v u hv hu n =
      ⊎_elim (λ q. absurd (n.other q)) (λ p. p)
      ((leads_says M.boxes interferes v u hv hu).0
      (needed_onward M interferes (leads M.boxes interferes) (leads_self M.boxes interferes) (leads_onward M.boxes interferes) w s v u hv hu n))

  pub accepted_path : (S : States) (A : Likeness) → Closed M S → Equivalence A → Conditions intransitive M S interferes A →
      (v u : ℕ) → v < M.boxes → u < M.boxes → Needed M v u → Path M.boxes interferes v u
  accepted_path S A c q k = needed_path (unwinding M S interferes A c w q intransitive k)
