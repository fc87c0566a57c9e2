-- What a call on an allowed list may ask of those below it.
-- Assumes nothing.
use mathlib.Core.Path.{◌≡◌, refl}
use mathlib.Core.Bool.{true}
use mathlib.Core.List.{List}
use Prim.Native.Nat.{ℕ, ◌<◌, ◌≤◌}
use native.Mathlib.Omega.{arith}
use lib.ListN.{length}
use lib.Dec.{eqb, ltb}
use borrow.Author.Tests.{ne_eqb, leb-true, ltb-true, ltb-false, eqb-true}
use Rattle.laws.specs.Choice.{both, choose}
use Rattle.laws.specs.Bits.{bit}
use Rattle.laws.proofs.Tests.{by_test, both_true}
use Rattle.laws.proofs.Bits.{power_small, power_pos}
use Rattle.model.specs.Limits.{BOXES, EDITS}
use Rattle.edits.specs.Records.{at, boxes}
use Rattle.edits.specs.History.{History, past, ADD, DELETE, DRAW}
use Rattle.edits.specs.Allowed.{allowed}
use Rattle.edits.specs.Plan.{plan}
use Rattle.edits.specs.Fits.{fits}
use Rattle.edits.specs.Private.{Small, Between, Doable, Undoable}
use Rattle.edits.specs.declared.BoxRecord.{BoxRecord}
use Rattle.edits.specs.declared.Entry.{Entry}
use Rattle.edits.specs.declared.Change.{Change}
use Rattle.std.specs.Prelude.{Ok}
use Rattle.edits.proofs.Found.{boxes_most}
use Rattle.edits.proofs.Fine.{Listed, sound}
use Rattle.edits.proofs.Gave.{Gave, adding, deleting, drawing, erasing, plan_gave}

-- ---- what an allowed list has
pub few : (l : List BoxRecord) (c : ℕ) (w : List ℕ) → allowed l (past c w) ≡ true → c ≤ EDITS
unfolding allowed
few l c w e = leb-true _ _ (both_true _ _ e).0

-- below the limit there is room for one position more
small : (l : List BoxRecord) (h : History) → length l ≡ BOXES → allowed l h ≡ true → boxes l < BOXES → Small l
small l h long ok b =
    let s : Listed (boxes l) l = (sound l h long ok).list in
    record {
      small = λ k. by_test (ltb k (boxes l))
          (λ t. omega (arith, s.within k (ltb-true _ _ t), power_small (boxes l) 31 (omega arith)))
          (λ t. rw (s.rest k (ltb-false _ _ t)) (power_pos 31));
    }

pub undoable : (l : List BoxRecord) (h : History) → length l ≡ BOXES → allowed l h ≡ true → (e : Entry) → fits e l ≡ true → Undoable e l
unfolding fits choose
undoable l h long ok e f = record {
  add = λ k. ltb-true _ _ (both_true _ _ (rw k at f)).0;
  delete = λ k.
      let t = both_true _ _ (rw k at f) in
      let room : boxes l < BOXES = ltb-true _ _ t.0 in
      let here : e.at ≤ boxes l = leb-true _ _ (both_true _ _ t.1).0 in
      (omega arith, small l h long ok room);
  draw = λ k. between 1 (rw k at f);
  erase = λ a d k. between 0 (rw (ne_eqb e.kind ADD a, ne_eqb e.kind DELETE d, ne_eqb e.kind DRAW k) at f);
}
  where
    between : (b : ℕ) → both (ltb e.at (boxes l)) (both (ltb e.to (boxes l)) (eqb (bit e.to (at l e.at).arrows) b)) ≡ true → Between e l b
    between b g =
        let t = both_true _ _ g in
        let u = both_true _ _ t.1 in
        let i : e.at < boxes l = ltb-true _ _ t.0 in
        let j : e.to < boxes l = ltb-true _ _ u.0 in
        record { source = omega (arith, boxes_most l); target = omega (arith, boxes_most l); stands = eqb-true _ _ u.1 }

gave_doable : (l : List BoxRecord) (h : History) (e : Entry) → Gave l h e → Doable e l
gave_doable l h e (adding i a b s) = record { add = λ _. s; delete = λ z. absurd (omega arith); draw = λ z. absurd (omega arith); erase = λ z _ _. absurd (z refl) }
gave_doable l h e (deleting p s v) = record { add = λ z. absurd (omega arith); delete = λ _. s; draw = λ z. absurd (omega arith); erase = λ _ z _. absurd (z refl) }
gave_doable l h e (drawing i j s t v w d z) = record { add = λ q. absurd (omega arith); delete = λ q. absurd (omega arith); draw = λ _. record { source = s; target = t; stands = z }; erase = λ _ _ q. absurd (q refl) }
gave_doable l h e (erasing i j s t v w d o) = record { add = λ q. absurd (omega arith); delete = λ q. absurd (omega arith); draw = λ q. absurd (omega arith); erase = λ _ _ _. record { source = s; target = t; stands = o } }

pub doable : (l : List BoxRecord) (h : History) (q : Change) (e : Entry) → plan l h q ≡ Ok e → Doable e l
doable l h q e z = gave_doable l h e (plan_gave l h q e z)
