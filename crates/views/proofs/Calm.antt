-- What the guards say of the searches: where a guard holds there is no broken place.
-- Assumes nothing.
use mathlib.Core.Path.{◌≡◌, refl, sym, ap, subst, ◌∙◌}
use mathlib.Core.Bool.{Bool, true, false}
use mathlib.Core.Logic.{by_cases}
use mathlib.Core.List.{List}
use mathlib.Core.Option.{none}
use Prim.Native.Nat.{ℕ, ◌+◌, ◌*◌, ◌<◌, ◌≤◌}
use native.Mathlib.Nat.{not-suc-le-zero}
use native.Mathlib.Decide.{ℕ_discrete}
use native.Mathlib.Omega.{arith}
use borrow.Author.Count.{below_more}
use lib.ListN.{get_or, set, length-set, replicate, length-replicate}
use lib.Seq.{get_or-set_same, get_or-set_other}
use borrow.Author.Tests.{eq-eqb, eqb-true}
use lib.Dec.{eqb}
use Rattle.laws.specs.Range.{every}
use Rattle.laws.proofs.Tests.{not_both, not_yes, without_none, both_true}
use Rattle.laws.proofs.Range.{every_at, every_of}
use Rattle.laws.proofs.Search.{first_of_empty, when_rest, when_no}
use Rattle.model.specs.Limits.{ACTIONS, BOXES}
use Rattle.model.specs.Denoted.{owner_at}
use Rattle.model.specs.Good.{GoodMachine, GoodTable}
use Rattle.model.specs.declared.Machine.{Machine}
use Rattle.views.specs.Tables.{alike_in, leaks_in, moves_in, tears_in}
use Rattle.views.specs.Guards.{KEPT, class_at, low_at, sent, Lows, Idle, Keeps, Kept, Alones, alone_in, strong_in, quiet_in, Calm}
use Rattle.views.proofs.Searches.{output_at, output_from, output_of, respect_at, respect_from, step_at, step_from, step_under, step_of}
use Rattle.views.proofs.Lows.{least_same, least_like, same_at}

-- ---- one state for each class
pub strong_calm : (states actions : ℕ) (next low : List ℕ) (u o a : ℕ) → strong_in states actions next low u a ≡ true →
    Calm states actions next low u o a
unfolding strong_in
strong_calm states actions next low u o a h = record {
  calm = λ s t p q r k. eqb-true _ _ (every_at _ _ h s p) ∙ ap (sent actions next low u a) r ∙ sym (eqb-true _ _ (every_at _ _ h t q));
}

alone_same : (states : ℕ) (low : List ℕ) (u : ℕ) → alone_in states low u ≡ true → (s t : ℕ) → s < states → t < states → low_at low u s ≡ low_at low u t → s ≡ t
unfolding alone_in
alone_same states low u h s t p q r = sym (eqb-true _ _ (every_at _ _ h s p)) ∙ r ∙ eqb-true _ _ (every_at _ _ h t q)

pub alone_quiet : (states actions : ℕ) (outputs low : List ℕ) (o a : ℕ) → alone_in states low o ≡ true → quiet_in states actions outputs low o a ≡ true
unfolding alone_in quiet_in
alone_quiet states actions outputs low o a h =
    every_of states _ (λ s p. eq-eqb _ _ (ap (λ x. get_or outputs (x * actions + a) 0) (sym (eqb-true _ _ (every_at _ _ h s p)))))

pub alones_none : (states : ℕ) (low : List ℕ) → Alones states low (replicate BOXES false)
alones_none states low =
    record { size = length-replicate {A = Bool} BOXES false; alone = λ u e. not_both e (same_at BOXES u false) }

pub alones_more : {states : ℕ} {low : List ℕ} {alones : List Bool} {u : ℕ} {b : Bool} → Alones states low alones → u < BOXES →
    b ≡ alone_in states low u → Alones states low (set alones u b)
alones_more {states} {low} {alones} {u} {b} h l q = record {
  size = length-set alones u b ∙ h.size;
  alone = λ v e. by_cases (ℕ_discrete v u)
      (λ p. subst (λ x. alone_in states low x ≡ true) (sym p)
      (sym q ∙ sym (get_or-set_same alones u b false (omega (arith, h.size))) ∙ ap (λ x. get_or (set alones u b) x false) (sym p) ∙ e))
      (λ n. h.alone v (sym (get_or-set_other alones u v b false n) ∙ e));
}

-- no two states are alike to u, or to o
pub alone_calm : (states actions : ℕ) (next low : List ℕ) (u o a : ℕ) → alone_in states low u ≡ true → Calm states actions next low u o a
alone_calm states actions next low u o a h =
    record { calm = λ s t p q r k. ap (sent actions next low u a) (alone_same states low u h s t p q r) }

pub alone_owner : (states actions : ℕ) (next low : List ℕ) (u o a : ℕ) → alone_in states low o ≡ true → Calm states actions next low u o a
alone_owner states actions next low u o a h =
    record { calm = λ s t p q r k. ap (sent actions next low u a) (alone_same states low o h s t p q k) }

-- ---- no state changes
pub idle_of : {states actions : ℕ} {next : List ℕ} {a : ℕ} {r : Bool} → r ≡ every states (λ s. eqb (get_or next (s * actions + a) 0) s) → r ≡ true →
    Idle states actions next a
idle_of e h = record { idle = λ s l. eqb-true _ _ (every_at _ _ (sym e ∙ h) s l) }

pub idle_keeps : {states actions : ℕ} {next : List ℕ} {a : ℕ} (low : List ℕ) (u : ℕ) → Idle states actions next a → Keeps states actions next low u a
idle_keeps low u h = record { keeps = λ s l. ap (low_at low u) (sym (h.idle s l)) }

-- ---- no class changes
pub keeps_none : (actions : ℕ) (next low : List ℕ) (u a : ℕ) → Keeps 0 actions next low u a
keeps_none actions next low u a = record { keeps = λ s l. absurd (not-suc-le-zero l) }

pub keeps_more : {n actions : ℕ} {next low : List ℕ} {u a x y : ℕ} → Keeps n actions next low u a → x ≡ low_at low u n → y ≡ sent actions next low u a n →
    x ≡ y → Keeps (n + 1) actions next low u a
keeps_more {n} {actions} {next} {low} {u} {a} h ex ey e =
    record { keeps = below_more (λ s. low_at low u s ≡ sent actions next low u a s) n h.keeps (sym ex ∙ e ∙ ey) }

pub keeps_all : {n states actions : ℕ} {next low : List ℕ} {u a : ℕ} → Keeps n actions next low u a → states ≤ n → Keeps states actions next low u a
keeps_all h l = record { keeps = λ s p. h.keeps s (omega arith) }

pub keeps_calm : {states actions : ℕ} {next low : List ℕ} {u a : ℕ} (o : ℕ) → Keeps states actions next low u a → Calm states actions next low u o a
keeps_calm o h = record { calm = λ s t p q r k. sym (h.keeps s p) ∙ r ∙ h.keeps t q }

pub kept_none : (states actions : ℕ) (next low : List ℕ) → Kept states actions next low (replicate KEPT false)
kept_none states actions next low = record {
  size = length-replicate {A = Bool} KEPT false;
  noted = λ u a l e. not_both e (same_at KEPT (u * ACTIONS + a) false);
}

pub kept_more : {states actions : ℕ} {next low : List ℕ} {kept : List Bool} {u a : ℕ} → Kept states actions next low kept → u < BOXES → a < ACTIONS →
    Keeps states actions next low u a → Kept states actions next low (set kept (u * ACTIONS + a) true)
kept_more {states} {actions} {next} {low} {kept} {u} {a} h lu la w = record {
  size = length-set kept (u * ACTIONS + a) true ∙ h.size;
  noted = λ v b l e. by_cases (ℕ_discrete (v * ACTIONS + b) (u * ACTIONS + a))
      (λ q. let eu : v ≡ u = omega arith in let ea : b ≡ a = omega arith in
      subst (λ x. Keeps states actions next low x b) (sym eu) (subst (λ x. Keeps states actions next low u x) (sym ea) w))
      (λ q. h.noted v b l (sym (get_or-set_other kept (u * ACTIONS + a) (v * ACTIONS + b) true false q) ∙ e));
}

-- ---- the searches over pairs find nothing
module _ {m : Machine} {next views low : List ℕ} (g : GoodTable m next) (w : Lows m.sizes.states m.sizes.boxes views low) where
  tears_off : {u o a : ℕ} → u < m.sizes.boxes → o < m.sizes.boxes → a < m.sizes.actions → Calm m.sizes.states m.sizes.actions next low u o a →
      (s t : ℕ) → s < m.sizes.states → t < m.sizes.states → tears_in m.sizes.states m.sizes.actions next views u o a s t ≡ false
  unfolding tears_in alike_in
  tears_off {u} {o} {a} lu lo la h s t p q =
      without_none _ _ (λ e. let b = both_true _ _ e in
      eq-eqb _ _ (least_like (w.least u _ lu (g.next_in s a p la)) (w.least u _ lu (g.next_in t a q la))
      (h.calm s t p q (least_same (w.least u s lu p) (w.least u t lu q) (eqb-true _ _ b.0))
      (least_same (w.least o s lo p) (w.least o t lo q) (eqb-true _ _ b.1)))))

  pub calm_none : {u o a : ℕ} → u < m.sizes.boxes → a < m.sizes.actions → o ≡ owner_at m a → Calm m.sizes.states m.sizes.actions next low u o a →
      step_under m.sizes.states m.sizes.actions m.owners next views u a ≡ none
  calm_none {u} {o} {a} lu la e h =
      first_of_empty m.sizes.states (step_from m.sizes.states m.sizes.actions m.owners next views u a) (λ s p. when_rest true
      (first_of_empty m.sizes.states (step_at m.sizes.states m.sizes.actions m.owners next views u a s) (λ t q. when_rest true (when_rest _ (when_no _
      (tears_off lu (g.machine.owner_in a la) la (subst (λ x. Calm m.sizes.states m.sizes.actions next low u x a) e h) s t p q))))))

  -- the search over states finds nothing
  pub keeps_still : {u a : ℕ} (owners arrows : List ℕ) → u < m.sizes.boxes → a < m.sizes.actions → Keeps m.sizes.states m.sizes.actions next low u a →
      respect_from m.sizes.states m.sizes.actions owners arrows next views u a ≡ none
  unfolding moves_in alike_in
  keeps_still {u} {a} owners arrows lu la h =
      when_rest _ (first_of_empty m.sizes.states (respect_at m.sizes.states m.sizes.actions owners arrows next views u a)
      (λ s p. when_rest true (when_no _ (sym (not_yes
      (eq-eqb _ _ (least_like (w.least u s lu p) (w.least u _ lu (g.next_in s a p la)) (h.keeps s p))))))))

  pub alone_none : {u : ℕ} → u < m.sizes.boxes → alone_in m.sizes.states low u ≡ true → step_of m.sizes.states m.sizes.actions m.owners next views u ≡ none
  alone_none {u} lu h =
      first_of_empty m.sizes.actions (step_under m.sizes.states m.sizes.actions m.owners next views u)
      (λ a la. calm_none lu la refl (alone_calm m.sizes.states m.sizes.actions next low u (owner_at m a) a h))

pub quiet_none : {m : Machine} {views low : List ℕ} {o a : ℕ} (outputs : List ℕ) → GoodMachine m → Lows m.sizes.states m.sizes.boxes views low →
    a < m.sizes.actions → o ≡ owner_at m a → quiet_in m.sizes.states m.sizes.actions outputs low o a ≡ true →
    output_of m.sizes.states m.sizes.actions m.owners outputs views a ≡ none
unfolding quiet_in leaks_in alike_in
quiet_none {m} {views} {low} {o} {a} outputs g w la e h =
    first_of_empty m.sizes.states (output_from m.sizes.states m.sizes.actions m.owners outputs views a) (λ s p. when_rest true
    (first_of_empty m.sizes.states (output_at m.sizes.states m.sizes.actions m.owners outputs views a s) (λ t q. when_rest true (when_rest _ (when_no _
    (without_none _ _ (λ k. eq-eqb _ _ (equal s t p q (eqb-true _ _ (rw (sym e) at k))))))))))
  where
    own : o < m.sizes.boxes
    own = subst (λ x. x < m.sizes.boxes) (sym e) (g.owner_in a la)

    equal : (s t : ℕ) → s < m.sizes.states → t < m.sizes.states → class_at m.sizes.states views o s ≡ class_at m.sizes.states views o t →
        get_or outputs (s * m.sizes.actions + a) 0 ≡ get_or outputs (t * m.sizes.actions + a) 0
    equal s t p q k =
        eqb-true _ _ (every_at _ _ h s p)
        ∙ ap (λ x. get_or outputs (x * m.sizes.actions + a) 0) (least_same (w.least o s own p) (w.least o t own q) k)
        ∙ sym (eqb-true _ _ (every_at _ _ h t q))
