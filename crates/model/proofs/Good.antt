-- What is not refused is good, and what is good is not refused.
-- Assumes nothing.
use mathlib.Core.Path.{◌≡◌, sym, ◌∙◌}
use mathlib.Core.Logic.{◌↔◌}
use mathlib.Core.Bool.{true, not}
use mathlib.Core.List.{List}
use Prim.Native.Nat.{ℕ, ◌^◌, ◌<◌, ◌≤◌}
use native.Mathlib.Omega.{arith}
use lib.Dec.{eqb}
use borrow.Author.Tests.{ltb-true, leb-true, lt-ltb, le-ltb, le-leb, eq-eqb, ne_eqb, not-true}
use Rattle.laws.proofs.Tests.{both_true, both_of, not_both}
use Rattle.laws.proofs.Range.{every_at, every_of, by_order}
use Rattle.laws.specs.Choice.{choose}
use Rattle.laws.specs.Sets.{has}
use Rattle.laws.proofs.Sets.{has_beyond, small_of}
use Rattle.model.specs.Refused.{sized, sizes_fit, owners_fit, machine_fits, next_fits, ids_fit, row_fits, arrows_fit, selves_fit, drawing_fits, machine_table_fits, model_fits, model_table_fits}
use Rattle.model.specs.Good.{GoodMachine, GoodTable, GoodDrawing}
use Rattle.model.specs.declared.Machine.{Machine}
use Rattle.model.specs.declared.Model.{Model}

-- ---- one test each
sized_is : (most n : ℕ) → (sized most n ≡ true) ↔ ((0 < n) × (n ≤ most))
unfolding sized
sized_is most n = (
  λ e. let b = both_true _ _ e in (ltb-true _ _ b.0, leb-true _ _ b.1),
  λ h. both_of (lt-ltb _ _ h.0) (le-leb _ _ h.1),
)

unlike_is : (m n : ℕ) → (not (eqb m n) ≡ true) ↔ (m ≡ n → ⊥)
unlike_is m n = (λ e q. not_both (eq-eqb m n q) (not-true _ e), λ h. rw (ne_eqb m n h))

-- ---- the machine
pub machine_good : (m : Machine) → (machine_fits m ≡ true) ↔ GoodMachine m
unfolding machine_fits sizes_fit owners_fit
machine_good m = (to, from)
  where
    to : machine_fits m ≡ true → GoodMachine m
    to e =
        let a = both_true _ _ e in
        let b = both_true _ _ a.0 in
        let d = both_true _ _ b.1 in
        let f = both_true _ _ d.1 in
        let s = (sized_is _ _).0 b.0 in
        let t = (sized_is _ _).0 d.0 in
        let u = (sized_is _ _).0 f.0 in
        record {
          sizes = record {
            states_some = s.0;
            states_most = s.1;
            actions_some = t.0;
            actions_most = t.1;
            boxes_some = u.0;
            boxes_most = u.1;
            start_in = ltb-true _ _ f.1;
          };
          owner_in = λ k l. ltb-true _ _ (every_at _ _ a.1 k l);
        }

    from : GoodMachine m → machine_fits m ≡ true
    from g =
        both_of
        (both_of ((sized_is _ _).1 (g.sizes.states_some, g.sizes.states_most))
        (both_of ((sized_is _ _).1 (g.sizes.actions_some, g.sizes.actions_most))
        (both_of ((sized_is _ _).1 (g.sizes.boxes_some, g.sizes.boxes_most)) (lt-ltb _ _ g.sizes.start_in))))
        (every_of _ _ (λ k l. lt-ltb _ _ (g.owner_in k l)))

pub table_good : (m : Machine) (next : List ℕ) → (machine_table_fits m next ≡ true) ↔ GoodTable m next
unfolding machine_table_fits next_fits
table_good m next = (
  λ e. let a = both_true _ _ e in
      record {
        machine = (machine_good m).0 a.0;
        next_in = λ s k ls lk. ltb-true _ _ (every_at _ _ (every_at _ _ a.1 s ls) k lk);
      },
  λ g. both_of ((machine_good m).1 g.machine)
      (every_of _ _ (λ s ls. every_of _ _ (λ k lk. lt-ltb _ _ (g.next_in s k ls lk)))),
)

-- ---- what is drawn
-- a row fits exactly where its bits are boxes, and its own number is one if it has any
row_in : (boxes v row : ℕ) → row_fits boxes v row ≡ true → (u : ℕ) → has row u ≡ true → (v < boxes) × (u < boxes)
unfolding row_fits choose
row_in boxes v row e u d =
    by_order v boxes
    (λ l. (l, in_row boxes (ltb-true row (2 ^ boxes) (sym (rw (lt-ltb v boxes l)) ∙ e))))
    (λ l. absurd (none (omega arith)))
    (λ l. absurd (none (omega arith)))
  where
    in_row : (n : ℕ) → row < 2 ^ n → u < n
    in_row n l = by_order u n (λ k. k) (λ k. not_both d (has_beyond n row u l (omega arith))) (λ k. not_both d (has_beyond n row u l (omega arith)))

    none : boxes ≤ v → ⊥
    none l = let k = in_row 0 (ltb-true row 1 (sym (rw (le-ltb v boxes l)) ∙ e)) in omega arith

row_of_lem : (boxes v row : ℕ) → ((u : ℕ) → has row u ≡ true → (v < boxes) × (u < boxes)) → row_fits boxes v row ≡ true
unfolding row_fits choose
row_of_lem boxes v row h =
    by_order v boxes
    (λ l. rw (lt-ltb v boxes l) (lt-ltb row (2 ^ boxes) (small_of boxes row (λ u d. (h u d).1))))
    (λ l. rw (le-ltb v boxes (omega arith)) (lt-ltb row 1 (none (omega arith))))
    (λ l. rw (le-ltb v boxes (omega arith)) (lt-ltb row 1 (none (omega arith))))
  where
    none : boxes ≤ v → row < 1
    none l = small_of 0 row (λ u d. absurd (let k = (h u d).0 in omega arith))

pub drawing_good : (m : Model) → (drawing_fits m ≡ true) ↔ GoodDrawing m
unfolding drawing_fits ids_fit arrows_fit selves_fit
drawing_good m = (
  λ e. let a = both_true _ _ e in
      let b = both_true _ _ a.1 in
      record {
        id_small = λ u l. leb-true _ _ (both_true _ _ (every_at _ _ a.0 u l)).0;
        id_once = λ u v l k. (unlike_is _ _).0 (every_at _ _ (both_true _ _ (every_at _ _ a.0 u l)).1 v k);
        arrow_in = λ v u lv d. row_in m.machine.sizes.boxes v _ (every_at _ _ b.0 v lv) u d;
        self = λ u l. every_at _ _ b.1 u l;
      },
  λ g. both_of
      (every_of _ _ (λ u l. both_of (le-leb _ _ (g.id_small u l)) (every_of _ _ (λ v k. (unlike_is _ _).1 (g.id_once u v l k)))))
      (both_of
      (every_of _ _ (λ v lv. row_of_lem m.machine.sizes.boxes v _ (λ u d. g.arrow_in v u lv d)))
      (every_of _ _ (λ u l. g.self u l))),
)

-- ---- a whole model
pub model_good : (m : Model) → (model_fits m ≡ true) ↔ (GoodMachine m.machine × GoodDrawing m)
unfolding model_fits
model_good m = (
  λ e. let a = both_true _ _ e in ((machine_good _).0 a.0, (drawing_good m).0 a.1),
  λ g. both_of ((machine_good _).1 g.0) ((drawing_good m).1 g.1),
)

pub model_table_good : (m : Model) (next : List ℕ) → (model_table_fits m next ≡ true) ↔ (GoodTable m.machine next × GoodDrawing m)
unfolding model_table_fits
model_table_good m next = (
  λ e. let a = both_true _ _ e in ((table_good _ next).0 a.0, (drawing_good m).0 a.1),
  λ g. both_of ((table_good _ next).1 g.0) ((drawing_good m).1 g.1),
)
