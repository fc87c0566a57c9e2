-- How flags are set one by one for the boxes that are needed, and what they come to.
-- Assumes nothing.
use mathlib.Core.Path.{◌≡◌, refl, sym, ◌∙◌, ap, subst}
use mathlib.Core.Logic.{◌≢◌}
use mathlib.Core.Bool.{Bool, true, false}
use mathlib.Core.List.{List}
use Prim.Native.Nat.{ℕ, ◌+◌, ◌*◌, ◌<◌}
use native.Mathlib.Omega.{arith}
use native.Mathlib.Numerals.{add-one}
use borrow.Author.Tests.{eq-eqb, ne_eqb, eqb-true, eqb-false}
use lib.Dec.{eqb}
use lib.ListN.{length, get_or, set, length-set}
use lib.Seq.{get_or-set_same, get_or-set_other}
use Rattle.laws.specs.Choice.{both, either, without}
use Rattle.laws.specs.Range.{some}
use Rattle.laws.proofs.Tests.{by_test}
use Rattle.model.specs.Limits.{BOXES, ARROWS}
use Rattle.needs.specs.Marks.{cell_at, movers, sources, Marked}

either_none : (a : Bool) {b : Bool} → b ≡ false → a ≡ either a b
unfolding either
either_none true e = refl
either_none false e = sym e

either_joined : (a b c : Bool) → either (either a b) c ≡ either a (either b c)
unfolding either
either_joined true b c = refl
either_joined false b c = refl

either_last : (a : Bool) {b : Bool} → b ≡ true → either a b ≡ true
unfolding either
either_last true e = refl
either_last false e = e

without_same : (a : Bool) {b : Bool} → b ≡ true → without a b ≡ false
unfolding without
without_same true e = rw e
without_same false e = refl

without_other : {a : Bool} (b : Bool) → a ≡ false → without a b ≡ false
unfolding without
without_other b e = rw e

without_moved : {a b : Bool} → a ≡ true → b ≡ false → without a b ≡ true
unfolding without
without_moved p q = rw (p, q)

some_next : (n : ℕ) (p : ℕ → Bool) → some (n + 1) p ≡ either (some n p) (p n)
unfolding some
some_next n p = rw add-one

some_zero : (p : ℕ → Bool) → some 0 p ≡ false
unfolding some
some_zero p = refl

-- ---- one column
pub marked_none : (table : List Bool) (u : ℕ) (p : ℕ → Bool) → length table ≡ ARROWS → ((v : ℕ) → p v ≡ false) → Marked table table u p
marked_none table u p e h = record {
  long = e;
  column = λ v l. either_none (cell_at table v u) (h v);
  others = λ v w lv lw n. refl;
}

pub marked_same : {table table' : List Bool} {u : ℕ} {p : ℕ → Bool} (q : ℕ → Bool) → Marked table table' u p → ((v : ℕ) → p v ≡ q v) → Marked table table' u q
marked_same {table} {table'} {u} q m h = record {
  long = m.long;
  column = λ v l. m.column v l ∙ ap (either (cell_at table v u)) (h v);
  others = m.others;
}

pub marked_put : {table table' : List Bool} {u : ℕ} {p : ℕ → Bool} (q : ℕ → Bool) (o : ℕ) → Marked table table' u p → o < BOXES → u < BOXES →
    q o ≡ true → ((v : ℕ) → v ≢ o → p v ≡ q v) → Marked table (set table' (o * BOXES + u) true) u q
marked_put {table} {table'} {u} {p} q o m lo lu e h = record {
  long = length-set table' (o * BOXES + u) true ∙ m.long;
  column = λ v l. by_test (eqb v o)
      (λ z. let s : v ≡ o = eqb-true v o z in
      ap (λ x. get_or (set table' (o * BOXES + u) true) (x * BOXES + u) false) s ∙ get_or-set_same table' (o * BOXES + u) true false (omega (arith, m.long))
      ∙ sym (either_last (cell_at table v u) (ap q s ∙ e)))
      (λ z. let s : v ≢ o = eqb-false v o z in
      get_or-set_other table' (o * BOXES + u) (v * BOXES + u) true false (λ y. s (omega arith)) ∙ m.column v l ∙ ap (either (cell_at table v u)) (h v s));
  others = λ v w lv lw n. get_or-set_other table' (o * BOXES + u) (v * BOXES + w) true false (λ y. n (omega arith)) ∙ m.others v w lv lw n;
}

marked_join : {table table' table'' : List Bool} {u : ℕ} {p q : ℕ → Bool} → Marked table table' u p → Marked table' table'' u q →
    Marked table table'' u (λ v. either (p v) (q v))
marked_join {table} {table'} {table''} {u} {p} {q} a b = record {
  long = b.long;
  column = λ v l. b.column v l ∙ ap (λ x. either x (q v)) (a.column v l) ∙ either_joined (cell_at table v u) (p v) (q v);
  others = λ v w lv lw n. b.others v w lv lw n ∙ a.others v w lv lw n;
}

-- ---- the actions of one state
abbrev pub mover_at : List ℕ → (ℕ → ℕ → ℕ) → (ℕ → ℕ) → ℕ → ℕ → ℕ → Bool
mover_at owners step c s v a = without (eqb (get_or owners a 0) v) (eqb (c s) (c (step s a)))

-- the first a actions are marked
pub record MovedTo (owners : List ℕ) (step : ℕ → ℕ → ℕ) (c : ℕ → ℕ) (s : ℕ) (table table' : List Bool) (u a : ℕ) : Type 0 where
  pub marked : Marked table table' u (λ v. some a (mover_at owners step c s v))

module _ (owners : List ℕ) (step : ℕ → ℕ → ℕ) (c : ℕ → ℕ) (s : ℕ) {table : List Bool} {u : ℕ} where
  pub moved_none : length table ≡ ARROWS → MovedTo owners step c s table table u 0
  moved_none e = record { marked = marked_none table u _ e (λ v. some_zero (mover_at owners step c s v)) }

  module _ {table' : List Bool} {a : ℕ} (h : MovedTo owners step c s table table' u a) where
    pub moved_keep : {y : ℕ} → y ≡ step s a → c y ≡ c s → MovedTo owners step c s table table' u (a + 1)
    moved_keep ey e = record {
      marked = marked_same _ h.marked (λ v.
          either_none (some a (mover_at owners step c s v)) (without_same (eqb (get_or owners a 0) v) (eq-eqb (c s) (c (step s a)) (sym e ∙ ap c ey)))
          ∙ sym (some_next a (mover_at owners step c s v)));
    }

    pub moved_put : {y o : ℕ} → y ≡ step s a → (c y ≡ c s → ⊥) → o ≡ get_or owners a 0 → o < BOXES → u < BOXES →
        MovedTo owners step c s table (set table' (o * BOXES + u) true) u (a + 1)
    moved_put {y} {o} ey n eo lo lu = record {
      marked = marked_put _ o h.marked lo lu
          (some_next a (mover_at owners step c s o)
          ∙ either_last (some a (mover_at owners step c s o))
          (without_moved (eq-eqb (get_or owners a 0) o (sym eo)) (ne_eqb (c s) (c (step s a)) (λ e. n (ap c ey ∙ sym e)))))
          (λ v ne. either_none (some a (mover_at owners step c s v))
          (without_other (eqb (c s) (c (step s a))) (ne_eqb (get_or owners a 0) v (λ e. ne (sym e ∙ sym eo))))
          ∙ sym (some_next a (mover_at owners step c s v)));
    }

    pub moved_all : (actions : ℕ) → a ≡ actions → Marked table table' u (movers owners step actions c s)
    unfolding movers
    moved_all actions e = subst (λ n. Marked table table' u (λ v. some n (mover_at owners step c s v))) e h.marked

-- ---- the states
pub record SourcesTo (owners : List ℕ) (step : ℕ → ℕ → ℕ) (actions : ℕ) (c : ℕ → ℕ) (inside : ℕ → Bool) (table table' : List Bool) (u s : ℕ) : Type 0 where
  pub marked : Marked table table' u (sources owners step actions c inside s)

module _ (owners : List ℕ) (step : ℕ → ℕ → ℕ) (actions : ℕ) (c : ℕ → ℕ) (inside : ℕ → Bool) {table : List Bool} {u : ℕ} where
  pub sources_none : length table ≡ ARROWS → SourcesTo owners step actions c inside table table u 0
  unfolding sources
  sources_none e = record { marked = marked_none table u _ e (λ v. some_zero (λ s. both (inside s) (movers owners step actions c s v))) }

  module _ {table' : List Bool} {s : ℕ} (h : SourcesTo owners step actions c inside table table' u s) where
    pub sources_skip : inside s ≡ false → SourcesTo owners step actions c inside table table' u (s + 1)
    unfolding sources both
    sources_skip e = record {
      marked = marked_same _ h.marked (λ v.
          either_none _ (rw e) ∙ sym (some_next s (λ s. both (inside s) (movers owners step actions c s v))));
    }

    pub sources_more : {table'' : List Bool} → inside s ≡ true → Marked table' table'' u (movers owners step actions c s) →
        SourcesTo owners step actions c inside table table'' u (s + 1)
    unfolding sources both
    sources_more e m = record {
      marked = marked_same _ (marked_join h.marked m) (λ v.
          rw (some_next s (λ s. both (inside s) (movers owners step actions c s v)), e));
    }

    pub sources_all : (states : ℕ) → s ≡ states → Marked table table' u (sources owners step actions c inside states)
    sources_all states e = subst (λ n. Marked table table' u (sources owners step actions c inside n)) e h.marked
