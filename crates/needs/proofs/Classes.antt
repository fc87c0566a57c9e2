-- Classes named by their first members: they tell what is alike, the next round's come of this round's, and a round that changes none is the last.
-- Assumes nothing.
use mathlib.Core.Path.{◌≡◌, refl, sym, ◌∙◌, subst}
use mathlib.Core.Logic.{⊎_elim}
use mathlib.Core.Bool.{Bool, true, false}
use Prim.Native.Nat.{ℕ, ◌+◌, ◌<◌, ◌≤◌}
use native.Mathlib.Nat.{eq-or-lt_of_le}
use native.Mathlib.Numerals.{add-one}
use native.Mathlib.Omega.{arith}
use lib.Dec.{eqb}
use borrow.Author.Count.{below_more}
use borrow.Author.Tests.{eqb-true, eq-eqb}
use Rattle.laws.specs.Choice.{both, brings}
use Rattle.laws.specs.Range.{every, count}
use Rattle.laws.proofs.Tests.{not_both, agree, both_of, both_true, brings_at, brings_of}
use Rattle.laws.proofs.Range.{by_order, every_at, every_of, first_le, first_holds, first_least, first_at, every_same}
use Rattle.laws.proofs.Count.{Equivalent, count_le}
use Rattle.noninterference.specs.Machine.{Machine}
use Rattle.noninterference.specs.Rounds.{alike, stable, depth_in}
use Rattle.noninterference.proofs.Runs.{reachable_closed}
use Rattle.noninterference.proofs.Same.{within_equivalence, within_less}
use Rattle.noninterference.proofs.Rounds.{alike_says, stable_says, fewer_rounds}
use Rattle.needs.specs.Classes.{Classes, lowest, agrees, unchanged}
use Rattle.needs.specs.Rounds.{Known, AtRound, Refined}

-- ---- the first of a class
module _ (inside : ℕ → Bool) (E : ℕ → ℕ → Bool) where
  pub lowest_le : (s : ℕ) → lowest inside E s ≤ s
  unfolding lowest
  lowest_le s = first_le s _

  pub lowest_holds : (s : ℕ) → lowest inside E s < s → (inside (lowest inside E s) ≡ true) × (E (lowest inside E s) s ≡ true)
  unfolding lowest
  lowest_holds s l = both_true _ _ (first_holds s (λ t. both (inside t) (E t s)) l)

  pub lowest_least : (s t : ℕ) → t < s → inside t ≡ true → E t s ≡ true → lowest inside E s ≤ t
  unfolding lowest
  lowest_least s t l h e = first_least s (λ t. both (inside t) (E t s)) t l (both_of h e)

  -- what holds of s, and of a state before it that is alike, holds of the first
  pub lowest_case : (P : ℕ → Type 0) (s : ℕ) → P s → ((t : ℕ) → inside t ≡ true → E t s ≡ true → P t) → P (lowest inside E s)
  lowest_case P s h g =
      ⊎_elim
      (λ (e : lowest inside E s ≡ s). subst P (sym e) h)
      (λ (l : lowest inside E s < s). let w = lowest_holds s l in g (lowest inside E s) w.0 w.1)
      (eq-or-lt_of_le (lowest_le s))

  pub lowest_classes : ((s : ℕ) → E s s ≡ true) → (d : ℕ → ℕ) → ((s : ℕ) → inside s ≡ true → d s ≡ lowest inside E s) → Classes inside E d
  lowest_classes self d h = record {
    member = λ s i. subst (λ x. inside x ≡ true) (sym (h s i)) (lowest_case (λ x. inside x ≡ true) s i (λ t j e. j));
    related = λ s i. subst (λ x. E x s ≡ true) (sym (h s i)) (lowest_case (λ x. E x s ≡ true) s (self s) (λ t j e. e));
    least = λ s t i j e. subst (λ x. x ≤ t) (sym (h s i)) (low s t j e);
  }
    where
      low : (s t : ℕ) → inside t ≡ true → E t s ≡ true → lowest inside E s ≤ t
      low s t j e =
          let le : lowest inside E s ≤ s = lowest_le s in
          by_order t s (λ l. lowest_least s t l j e) (λ l. omega arith) (λ q. omega arith)

  -- class numbers tell what is alike
  pub tells : Equivalent E → (c : ℕ → ℕ) → Classes inside E c → (t s : ℕ) → inside t ≡ true → inside s ≡ true → eqb (c t) (c s) ≡ E t s
  tells q c k t s ht hs = agree (eqb (c t) (c s)) (E t s) (λ h. there (eqb-true _ _ h)) (λ e. eq-eqb _ _ (back e))
    where
      there : c t ≡ c s → E t s ≡ true
      there h =
          q.joined t (c t) s (q.turned (c t) t (k.related t ht)) (subst (λ x. E x s ≡ true) (sym h) (k.related s hs))

      back : E t s ≡ true → c t ≡ c s
      back e =
          let a : c t ≤ c s = k.least t (c s) ht (k.member s hs) (q.joined (c s) s t (k.related s hs) (q.turned t s e)) in
          let b : c s ≤ c t = k.least s (c t) hs (k.member t ht) (q.joined (c t) t s (k.related t ht) e) in
          omega arith

  -- a test that agrees on what counts has the same classes
  pub classes_same : (F : ℕ → ℕ → Bool) → ((t s : ℕ) → inside t ≡ true → inside s ≡ true → E t s ≡ F t s) → (c : ℕ → ℕ) →
      Classes inside E c → Classes inside F c
  classes_same F h c k = record {
    member = k.member;
    related = λ s i. sym (h (c s) s (k.member s i) i) ∙ k.related s i;
    least = λ s t i j e. k.least s t i j (h t s j i ∙ e);
  }

module _ (M : Machine) (inside : ℕ → Bool) (w : Known M inside) (u : ℕ) where
  pub inside_next : (s a : ℕ) → inside s ≡ true → a < M.actions → inside (M.step s a) ≡ true
  inside_next s a h l = w.reach.all (M.step s a) ((reachable_closed M).next s a (w.reach.right s (w.small s h) h) l)

  pub alike_equivalent : (k : ℕ) → Equivalent (alike M u k)
  alike_equivalent k = record {
    self = λ s. (alike_says M u k s s).1 ((within_equivalence M k).self u s);
    turned = λ s t h. (alike_says M u k t s).1 ((within_equivalence M k).turned u s t ((alike_says M u k s t).0 h));
    joined = λ s t x h g. (alike_says M u k s x).1
        ((within_equivalence M k).joined u s t x ((alike_says M u k s t).0 h) ((alike_says M u k t x).0 g));
  }

  alike_less : (k s t : ℕ) → alike M u (k + 1) s t ≡ true → alike M u k s t ≡ true
  alike_less k s t h = (alike_says M u k s t).1 (within_less M k (k + 1) u s t (omega arith) ((alike_says M u (k + 1) s t).0 h))

  module _ (k : ℕ) (c : ℕ → ℕ) (kc : Classes inside (alike M u k) c) where
    -- states that agree are alike after one round more
    agrees_alike : (t s : ℕ) → inside t ≡ true → inside s ≡ true → agrees M.step M.actions c t s ≡ alike M u (k + 1) t s
    unfolding agrees alike
    agrees_alike t s ht hs =
        rw (
          add-one k,
          tells inside (alike M u k) (alike_equivalent k) c kc t s ht hs,
          every_same M.actions (λ a. eqb (c (M.step t a)) (c (M.step s a))) (λ a. alike M u k (M.step t a) (M.step s a))
              (λ a l. tells inside (alike M u k) (alike_equivalent k) c kc (M.step t a) (M.step s a) (inside_next t a ht l) (inside_next s a hs l)),
        )

    agrees_self : (s : ℕ) → agrees M.step M.actions c s s ≡ true
    unfolding agrees
    agrees_self s = both_of (eq-eqb (c s) (c s) refl) (every_of M.actions _ (λ a l. eq-eqb (c (M.step s a)) (c (M.step s a)) refl))

    module _ (d : ℕ → ℕ) (hd : (s : ℕ) → inside s ≡ true → d s ≡ lowest inside (agrees M.step M.actions c) s) where
      next_classes : Classes inside (alike M u (k + 1)) d
      next_classes =
          classes_same inside (agrees M.step M.actions c) (alike M u (k + 1)) agrees_alike d
          (lowest_classes inside (agrees M.step M.actions c) agrees_self d hd)

      -- no class number changes where the round splits nothing
      unchanged_stable : unchanged M.states inside c d ≡ stable M inside u k
      unfolding unchanged stable
      unchanged_stable = agree _ _ there back
        where
          there : every M.states (λ s. brings (inside s) (eqb (c s) (d s))) ≡ true →
              every M.states (λ s. every M.states λ t. brings (both (both (inside s) (inside t)) (alike M u k s t)) (alike M u (k + 1) s t)) ≡ true
          there h = every_of M.states _ (λ s ls. every_of M.states _ (λ t lt. brings_of _ (λ e.
              let p = both_true _ _ e in
              let i = both_true _ _ p.0 in
              let es : c s ≡ d s = eqb-true _ _ (brings_at _ _ (every_at M.states _ h s ls) i.0) in
              let et : c t ≡ d t = eqb-true _ _ (brings_at _ _ (every_at M.states _ h t lt) i.1) in
              let ec : c s ≡ c t = eqb-true _ _ (tells inside (alike M u k) (alike_equivalent k) c kc s t i.0 i.1 ∙ p.1) in
              sym (tells inside (alike M u (k + 1)) (alike_equivalent (k + 1)) d next_classes s t i.0 i.1) ∙ eq-eqb (d s) (d t) (sym es ∙ ec ∙ et))))

          back : every M.states (λ s. every M.states λ t. brings (both (both (inside s) (inside t)) (alike M u k s t)) (alike M u (k + 1) s t)) ≡ true →
              every M.states (λ s. brings (inside s) (eqb (c s) (d s))) ≡ true
          back h = every_of M.states _ (λ s ls. brings_of _ (λ i.
              let m : inside (c s) ≡ true = kc.member s i in
              let e : alike M u (k + 1) (c s) s ≡ true =
              brings_at _ _ (every_at M.states _ (every_at M.states _ h (c s) (w.small (c s) m)) s ls) (both_of (both_of m i) (kc.related s i)) in
              let a : d s ≤ c s = next_classes.least s (c s) i m e in
              let b : c s ≤ d s =
              kc.least s (d s) i (next_classes.member s i) (alike_less k (d s) s (next_classes.related s i)) in
              eq-eqb (c s) (d s) (omega arith)))

  -- ---- the rounds
  pub round_first : (c : ℕ → ℕ) → ((s : ℕ) → inside s ≡ true → c s ≡ lowest inside (alike M u 0) s) → AtRound M inside u c 0
  round_first c h = record {
    classes = lowest_classes inside (alike M u 0) (alike_equivalent 0).self c h;
    split = λ j l. absurd (omega arith);
  }

  module _ (k : ℕ) (c : ℕ → ℕ) (h : AtRound M inside u c k) where
    pub round_below : k < M.states
    round_below =
        let a : k < count M.states inside =
        fewer_rounds M u inside w.reach k (λ j l st. not_both ((stable_says M u inside w.reach j).1 st) (h.split j l)) in
        let b : count M.states inside ≤ M.states = count_le M.states inside in
        omega arith

    module _ (d : ℕ → ℕ) (hd : (s : ℕ) → inside s ≡ true → d s ≡ lowest inside (agrees M.step M.actions c) s) where
      pub round_more : unchanged M.states inside c d ≡ false → AtRound M inside u d (k + 1)
      round_more e = record {
        classes = next_classes k c h.classes d hd;
        split = below_more (λ j. stable M inside u j ≡ false) k h.split (sym (unchanged_stable k c h.classes d hd) ∙ e);
      }

      pub round_last : unchanged M.states inside c d ≡ true → Refined M inside u c k
      unfolding depth_in
      round_last e = record {
        depth = sym (first_at M.states (stable M inside u) k round_below h.split (sym (unchanged_stable k c h.classes d hd) ∙ e));
        classes = h.classes;
      }
