-- The boxes are sorted out one by one: a box with observers by its classes, one without has depth 0 and no arrow leads to it.
-- Assumes nothing.
use mathlib.Core.Path.{◌≡◌, refl, sym, ◌∙◌, ap, subst}
use mathlib.Core.Logic.{◌≢◌}
use mathlib.Core.Bool.{Bool, true, false, not}
use mathlib.Core.List.{List}
use Prim.Native.Nat.{ℕ, zero, suc, ◌+◌, ◌*◌, ◌<◌, ◌≤◌}
use native.Mathlib.Nat.{not-suc-le-zero}
use native.Mathlib.Omega.{arith}
use borrow.Author.Count.{below_more}
use borrow.Author.Tests.{eq-eqb}
use lib.Dec.{eqb}
use lib.ListN.{get_or, set, length-set, replicate, length-replicate}
use lib.Seq.{get_or-set_same, get_or-set_other}
use Rattle.laws.specs.Choice.{both, either, without}
use Rattle.laws.specs.Range.{some}
use Rattle.laws.proofs.Tests.{by_test, not_both, both_no, both_true, false_of, without_true}
use Rattle.laws.proofs.Range.{some_at, some_of, some_same}
use Rattle.noninterference.specs.Machine as noninterference
use Rattle.noninterference.specs.Rounds.{alike, depth_in, needed_in}
use Rattle.noninterference.specs.Reached.{Reach}
use Rattle.noninterference.proofs.Rounds.{alike_says, depth_is, depth_silent}
use Rattle.model.specs.Limits.{BOXES, ARROWS}
use Rattle.model.specs.Denoted.{machine_of, next_at, owner_at}
use Rattle.model.specs.declared.Machine.{Machine}
use Rattle.reach.specs.Set.{flag_at}
use Rattle.needs.specs.Tables.{step_in, entry, Fitting}
use Rattle.needs.specs.Marks.{cell_at, movers, sources, Marked, wanted_in, SortedOut}
use Rattle.needs.specs.Rounds.{Known, Refined}
use Rattle.needs.proofs.Classes.{tells, alike_equivalent, inside_next}

blank_at : {A : Type 0} (n i : ℕ) (d : A) → get_or (replicate n d) i d ≡ d
blank_at zero i d = refl
blank_at (suc n) zero d = refl
blank_at (suc n) (suc i) d = blank_at n i d

first_none : {a b : Bool} → a ≡ false → either a b ≡ b
unfolding either
first_none e = rw e

wanted_same : (table table' : List Bool) (v u : ℕ) → cell_at table' v u ≡ cell_at table v u → wanted_in table' v u ≡ wanted_in table v u
unfolding wanted_in
wanted_same table table' v u e = ap (both (not (eqb v u))) e

wanted_blank : (table : List Bool) (v u : ℕ) → cell_at table v u ≡ false → wanted_in table v u ≡ false
unfolding wanted_in
wanted_blank table v u e = both_no (not (eqb v u)) e

-- ---- a box without observers
module _ (M : noninterference.Machine) (inside : ℕ → Bool) (w : Reach M inside) (u : ℕ)
    (none : (o : ℕ) → o < M.observers → M.watcher o ≡ u → ⊥) where
  silent_alike : (k s t : ℕ) → alike M u k s t ≡ true
  silent_alike k s t = (alike_says M u k s t).1 (record { within = λ r hr l. record { seen = λ o ho e. absurd (none o ho e) } })

  pub silent_depth : depth_in M inside u ≡ 0
  silent_depth = depth_is M u inside w 0 (depth_silent M u none)

  pub silent_needed : (k v : ℕ) → needed_in M inside k v u ≡ false
  unfolding needed_in
  silent_needed k v = false_of (λ h.
      let f = some_at M.states _ (both_true _ _ h).1 in
      let g = some_at M.actions _ (both_true _ _ f.2).1 in
      not_both (silent_alike k f.0 (M.step f.0 g.0)) (without_true _ _ g.2).1)

module _ (m : Machine) (next outputs : List ℕ) {inside : ℕ → Bool} (w : Known (machine_of m next outputs) inside) where
  -- ---- a box with observers: class numbers tell what moves
  sources_told : {u k : ℕ} {c : ℕ → ℕ} → Refined (machine_of m next outputs) inside u c k → (v : ℕ) →
      sources m.owners (step_in m.sizes.actions next) m.sizes.actions c inside m.sizes.states v
      ≡ some m.sizes.states (λ s. both (inside s) (some m.sizes.actions λ a. without (eqb (owner_at m a) v) (alike (machine_of m next outputs) u k s (next_at m next s a))))
  unfolding sources movers both
  sources_told {u} {k} {c} h v = some_same m.sizes.states _ _ (λ s l. by_test (inside s)
      (λ i. ap (both (inside s)) (some_same m.sizes.actions _ _ (λ a la. ap (without (eqb (owner_at m a) v))
      (tells inside (alike (machine_of m next outputs) u k) (alike_equivalent (machine_of m next outputs) inside w u k) c h.classes
      s (next_at m next s a) i (inside_next (machine_of m next outputs) inside w u s a i la)))))
      (λ i. rw i))

  wanted_told : {u k : ℕ} {c : ℕ → ℕ} (table : List Bool) (v : ℕ) → Refined (machine_of m next outputs) inside u c k →
      cell_at table v u ≡ sources m.owners (step_in m.sizes.actions next) m.sizes.actions c inside m.sizes.states v →
      wanted_in table v u ≡ needed_in (machine_of m next outputs) inside (depth_in (machine_of m next outputs) inside u) v u
  unfolding wanted_in needed_in
  wanted_told {u} {k} {c} table v h e =
      ap (both (not (eqb v u))) (e ∙ sources_told h v
      ∙ ap (λ d. some m.sizes.states (λ s. both (inside s) (some m.sizes.actions λ a. without (eqb (owner_at m a) v) (alike (machine_of m next outputs) u d s (next_at m next s a))))) h.depth)

  -- ---- one box after another
  pub sorted_none : SortedOut (machine_of m next outputs) inside (replicate ARROWS false) (replicate BOXES 0) 0
  sorted_none = record {
    table_long = length-replicate {A = Bool} ARROWS false;
    depths_long = length-replicate {A = ℕ} BOXES 0;
    wanted = λ v u lv lu. absurd (not-suc-le-zero lu);
    blank = λ v u lv lu l. blank_at ARROWS (v * BOXES + u) false;
    depth = λ u lu. absurd (not-suc-le-zero lu);
    level = λ u l. blank_at {A = ℕ} BOXES u 0;
  }

  module _ {table : List Bool} {depths : List ℕ} {u : ℕ} (h : SortedOut (machine_of m next outputs) inside table depths u) (lu : u < BOXES) where
    pub sorted_more : {c : ℕ → ℕ} {k : ℕ} {table' : List Bool} → Refined (machine_of m next outputs) inside u c k →
        Marked table table' u (sources m.owners (step_in m.sizes.actions next) m.sizes.actions c inside m.sizes.states) →
        SortedOut (machine_of m next outputs) inside table' (set depths u k) (u + 1)
    sorted_more {c} {k} {table'} r t = record {
      table_long = t.long;
      depths_long = length-set depths u k ∙ h.depths_long;
      wanted = λ v x lv lx. below_more (λ x. wanted_in table' v x ≡ needed_in (machine_of m next outputs) inside (depth_in (machine_of m next outputs) inside x) v x) u
          (λ x l. same v x lv (omega arith) (λ q. absurd (omega arith)) ∙ h.wanted v x lv l)
          (wanted_told table' v r (t.column v lv ∙ empty v lv)) x lx;
      blank = λ v x lv lx l. t.others v x lv lx (λ q. absurd (omega arith)) ∙ h.blank v x lv lx (omega arith);
      depth = λ x lx. below_more (λ x. get_or (set depths u k) x 0 ≡ depth_in (machine_of m next outputs) inside x) u
          (λ x l. get_or-set_other depths u x k 0 (λ q. absurd (omega arith)) ∙ h.depth x l)
          (get_or-set_same depths u k 0 (omega (arith, h.depths_long)) ∙ r.depth) x lx;
      level = λ x l. get_or-set_other depths u x k 0 (λ q. absurd (omega arith)) ∙ h.level x (omega arith);
    }
      where
        empty : (v : ℕ) → v < BOXES → either (cell_at table v u) (sources m.owners (step_in m.sizes.actions next) m.sizes.actions c inside m.sizes.states v)
            ≡ sources m.owners (step_in m.sizes.actions next) m.sizes.actions c inside m.sizes.states v
        empty v lv = first_none (h.blank v u lv lu (omega arith))

        same : (v x : ℕ) → v < BOXES → x < BOXES → x ≢ u → wanted_in table' v x ≡ wanted_in table v x
        same v x lv lx n = wanted_same table table' v x (t.others v x lv lx n)

    pub sorted_silent : some m.sizes.actions (λ a. eqb (get_or m.owners a 0) u) ≡ false → SortedOut (machine_of m next outputs) inside table depths (u + 1)
    sorted_silent e = record {
      table_long = h.table_long;
      depths_long = h.depths_long;
      wanted = λ v x lv lx. below_more (λ x. wanted_in table v x ≡ needed_in (machine_of m next outputs) inside (depth_in (machine_of m next outputs) inside x) v x) u
          (λ x l. h.wanted v x lv l)
          (wanted_blank table v u (h.blank v u lv lu (omega arith))
          ∙ sym (silent_needed (machine_of m next outputs) inside w.reach u none (depth_in (machine_of m next outputs) inside u) v)) x lx;
      blank = λ v x lv lx l. h.blank v x lv lx (omega arith);
      depth = λ x lx. below_more (λ x. get_or depths x 0 ≡ depth_in (machine_of m next outputs) inside x) u h.depth
          (h.level u (omega arith) ∙ sym (silent_depth (machine_of m next outputs) inside w.reach u none)) x lx;
      level = λ x l. h.level x (omega arith);
    }
      where
        none : (o : ℕ) → o < m.sizes.actions → owner_at m o ≡ u → ⊥
        none o lo q = not_both (some_of m.sizes.actions (λ a. eqb (get_or m.owners a 0) u) o lo (eq-eqb _ _ q)) e

-- ---- the loop over the boxes
pub record Sorting (m : Machine) (next outputs : List ℕ) (inside : List Bool) (table : List Bool) (depths : List ℕ) (u : ℕ) : Type 0 where
  pub fits : Fitting m next outputs
  pub known : Known (machine_of m next outputs) (flag_at inside)
  pub sorted : SortedOut (machine_of m next outputs) (flag_at inside) table depths u

pub sorting_none : {m : Machine} {next outputs : List ℕ} {inside : List Bool} → Fitting m next outputs → Known (machine_of m next outputs) (flag_at inside) →
    Sorting m next outputs inside (replicate ARROWS false) (replicate BOXES 0) 0
sorting_none {m} {next} {outputs} g w = record { fits = g; known = w; sorted = sorted_none m next outputs w }

module _ {m : Machine} {next outputs : List ℕ} {inside table : List Bool} {depths : List ℕ} {u : ℕ} (h : Sorting m next outputs inside table depths u) where
  pub box_small : m.sizes.boxes ≤ BOXES
  box_small = h.fits.good.machine.sizes.boxes_most

  pub sorting_more : {owners : List ℕ} (c : List ℕ) {k : ℕ} {table' : List Bool} → owners ≡ m.owners → u < m.sizes.boxes →
      Refined (machine_of m next outputs) (flag_at inside) u (entry c) k →
      Marked table table' u (sources owners (step_in m.sizes.actions next) m.sizes.actions (entry c) (flag_at inside) m.sizes.states) →
      Sorting m next outputs inside table' (set depths u k) (u + 1)
  sorting_more {owners} c {k} {table'} e l r t = record {
    fits = h.fits;
    known = h.known;
    sorted = sorted_more m next outputs h.known h.sorted (omega (arith, box_small)) r
        (subst (λ o. Marked table table' u (sources o (step_in m.sizes.actions next) m.sizes.actions (entry c) (flag_at inside) m.sizes.states)) e t);
  }

  pub sorting_silent : {owners : List ℕ} → owners ≡ m.owners → u < m.sizes.boxes → some m.sizes.actions (λ a. eqb (get_or owners a 0) u) ≡ false →
      Sorting m next outputs inside table depths (u + 1)
  sorting_silent e l f = record {
    fits = h.fits;
    known = h.known;
    sorted = sorted_silent m next outputs h.known h.sorted (omega (arith, box_small)) (subst (λ o. some m.sizes.actions (λ a. eqb (get_or o a 0) u) ≡ false) e f);
  }
