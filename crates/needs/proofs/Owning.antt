-- The actions of one box, listed: what they show alike is what all of the box's actions show alike.
-- Assumes nothing.
use mathlib.Core.Path.{◌≡◌, sym, ◌∙◌, ap, subst, fun_ext}
use mathlib.Core.Logic.{⊎_elim}
use mathlib.Core.Bool.{Bool, true, false}
use mathlib.Core.List.{List}
use Prim.Native.Nat.{ℕ, ◌+◌, ◌<◌, ◌≤◌}
use native.Mathlib.Nat.{eq-or-lt_of_le}
use native.Mathlib.Omega.{arith}
use borrow.Author.Count.{below_more}
use borrow.Author.Tests.{eq-eqb, ne_eqb, eqb-true}
use lib.Dec.{eqb}
use lib.ListN.{get_or, set, length-set}
use lib.Seq.{get_or-set_same, get_or-set_other}
use Rattle.laws.specs.Range.{Held}
use Rattle.laws.proofs.Tests.{agree, brings_at, brings_of}
use Rattle.laws.proofs.Range.{every_at, every_of, every_held, every_not, held_more}
use Rattle.model.specs.Limits.{ACTIONS}
use Rattle.needs.specs.Tables.{entry, seen_in}
use Rattle.needs.specs.Classes.{Led}
use Rattle.needs.specs.Own.{Owned, output_in, seen_by}
use Rattle.needs.specs.Laws.{SameBy, seen_at, seen_of}

-- ---- the list is filled
module _ {owners : List ℕ} {u : ℕ} {list : List ℕ} where
  module _ {a n : ℕ} (h : Owned owners a u list n) where
    pub owned_skip : {v : ℕ} → v ≡ get_or owners a 0 → (v ≡ u → ⊥) → Owned owners (a + 1) u list n
    owned_skip ev k = record {
      long = h.long;
      most = omega (arith, h.most);
      within = λ i l. omega (arith, h.within i l);
      mine = h.mine;
      all = below_more (λ b. get_or owners b 0 ≡ u → (i : ℕ) × (i < n) × (entry list i ≡ b)) a h.all (λ e. absurd (k (ev ∙ e)));
    }

    pub owned_more : {v x : ℕ} → a < ACTIONS → v ≡ get_or owners a 0 → v ≡ u → x ≡ a → Owned owners (a + 1) u (set list n x) (n + 1)
    owned_more {v} {x} l ev eu ex = record {
      long = length-set list n x ∙ h.long;
      most = omega (arith, h.most);
      within = below_more (λ i. entry (set list n x) i < a + 1) n (λ i p. let o = other i p in omega (arith, h.within i p)) (omega (arith, here));
      mine = below_more (λ i. get_or owners (entry (set list n x) i) 0 ≡ u) n (λ i p. ap (λ b. get_or owners b 0) (other i p) ∙ h.mine i p)
          (ap (λ b. get_or owners b 0) (here ∙ ex) ∙ sym ev ∙ eu);
      all = below_more (λ b. get_or owners b 0 ≡ u → (i : ℕ) × (i < n + 1) × (entry (set list n x) i ≡ b)) a
          (λ b p e. let w = h.all b p e in (w.0, omega (arith, w.1), other w.0 w.1 ∙ w.2))
          (λ e. (n, omega arith, here ∙ ex));
    }
      where
        here : entry (set list n x) n ≡ x
        here = get_or-set_same list n x 0 (omega (arith, h.long, h.most))

        other : (i : ℕ) → i < n → entry (set list n x) i ≡ entry list i
        other i p = get_or-set_other list n i x 0 (λ q. absurd (omega arith))

    pub owned_all : (actions : ℕ) → a ≤ actions → actions ≤ a → Owned owners actions u list n
    owned_all actions l m = let q : a ≡ actions = omega arith in subst (λ b. Owned owners b u list n) q h

pub above_none : {s : ℕ} → (s ≡ 0 → ⊥) → 0 < s
above_none {s} n = let l : 0 ≤ s = omega arith in ⊎_elim (λ (q : 0 ≡ s). absurd (n (sym q))) (λ (q : 0 < s). q) (eq-or-lt_of_le l)

-- ---- what two states show alike
module _ (list : List ℕ) (n : ℕ) (outputs : List ℕ) (actions : ℕ) where
  module _ (t s : ℕ) where
    pub seen_apart : {i a x y : ℕ} → i < n → a ≡ entry list i → x ≡ output_in actions outputs t a → y ≡ output_in actions outputs s a → (x ≡ y → ⊥) →
        false ≡ seen_by list n outputs actions t s
    unfolding seen_by
    seen_apart {i} l ea ex ey k =
        sym (every_not n (SameBy list n outputs actions t s) i l (ne_eqb _ _ (λ e. k (ex ∙ ap (output_in actions outputs t) ea ∙ e ∙ sym (ey ∙ ap (output_in actions outputs s) ea)))))

    pub seen_more : {i a x y : ℕ} → Held i (SameBy list n outputs actions t s) → a ≡ entry list i → x ≡ output_in actions outputs t a → y ≡ output_in actions outputs s a → x ≡ y →
        Held (i + 1) (SameBy list n outputs actions t s)
    seen_more {i} h ea ex ey e =
        held_more (SameBy list n outputs actions t s) i h (eq-eqb _ _ (sym (ex ∙ ap (output_in actions outputs t) ea) ∙ e ∙ ey ∙ ap (output_in actions outputs s) ea))

    pub seen_all : {i : ℕ} → n ≤ i → Held i (SameBy list n outputs actions t s) → true ≡ seen_by list n outputs actions t s
    unfolding seen_by
    seen_all l h = sym (every_held n (SameBy list n outputs actions t s) l h)

-- ---- the actions listed are the box's
module _ (outputs : List ℕ) {owners : List ℕ} {actions u : ℕ} {list : List ℕ} {n : ℕ} (h : Owned owners actions u list n) where
  seen_own : (t s : ℕ) → seen_by list n outputs actions t s ≡ seen_in owners outputs actions u t s
  seen_own t s =
      agree _ _
      (λ e. every_of actions _ (λ a l. brings_of (eqb (get_or owners a 0) u) (λ m. let w = h.all a l (eqb-true _ _ m) in
      eq-eqb _ _ (subst (λ b. output_in actions outputs t b ≡ output_in actions outputs s b) w.2 (seen_at list n outputs actions t s e w.0 w.1)))))
      (λ e. seen_of list n outputs actions t s (λ i l.
      eqb-true _ _ (brings_at (eqb (get_or owners (entry list i) 0) u) _ (every_at actions _ e (entry list i) (h.within i l)) (eq-eqb _ _ (h.mine i l)))))

  pub led_own : {inside : ℕ → Bool} {d : List ℕ} {k : ℕ} → Led inside (seen_by list n outputs actions) d k → Led inside (seen_in owners outputs actions u) d k
  led_own {inside} {d} {k} w = subst (λ E. Led inside E d k) (fun_ext (λ t. fun_ext (λ s. seen_own t s))) w
