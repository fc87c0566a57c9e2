-- Counting, and the classes of an equivalence under a finer one.
-- Assumes nothing.
use mathlib.Core.Path.{◌≡◌, refl, sym, ap, subst}
use mathlib.Core.Logic.{⊎_elim, ◌≢◌}
use mathlib.Core.Bool.{Bool, true, false, not}
use Prim.Native.Nat.{ℕ, zero, suc, ◌<◌, ◌≤◌}
use native.Mathlib.Omega.{arith}
use native.Mathlib.Decide.{dec_lt}
use native.Mathlib.Nat.{not-suc-le-zero}
use borrow.Author.Tests.{not-true, not-false}
use Rattle.laws.specs.Choice.{both, choose}
use Rattle.laws.specs.Range.{every, count}
use Rattle.laws.proofs.Tests.{by_test, not_both, both_true, both_of}
use Rattle.laws.proofs.Range.{below_suc, every_at, every_of, every_fails}

pub count_le : (n : ℕ) (p : ℕ → Bool) → count n p ≤ n
unfolding count choose
count_le zero p = omega arith
count_le (suc n) p =
    let h : count n p ≤ n = count_le n p in by_test (p n) (λ e. rw e (omega arith)) (λ e. rw e (omega arith))

pub count_same : (n : ℕ) (p q : ℕ → Bool) → ((i : ℕ) → i < n → p i ≡ q i) → count n p ≡ count n q
unfolding count choose
count_same zero p q h = refl
count_same (suc n) p q h = rw (h n (omega arith), count_same n p q (λ i l. h i (omega arith)))

-- what passes p passes q
module _ (p q : ℕ → Bool) where
  pub count_mono : (n : ℕ) → ((i : ℕ) → i < n → p i ≡ true → q i ≡ true) → count n p ≤ count n q
  unfolding count choose
  count_mono zero h = omega arith
  count_mono (suc n) h =
      let ih : count n p ≤ count n q = count_mono n (λ i l. h i (omega arith)) in
      by_test (p n) (λ e. rw (e, h n (omega arith) e) (omega arith))
      (λ e. by_test (q n) (λ f. rw (e, f) (omega arith)) (λ f. rw (e, f) (omega arith)))

  -- and x passes q alone
  pub count_strict : (n : ℕ) → ((i : ℕ) → i < n → p i ≡ true → q i ≡ true) →
      (x : ℕ) → x < n → p x ≡ false → q x ≡ true → count n p < count n q
  unfolding count choose
  count_strict zero h x l e f = absurd (not-suc-le-zero l)
  count_strict (suc n) h x l e f =
      ⊎_elim
      (λ l'. let ih : count n p < count n q = count_strict n (λ i k. h i (omega arith)) x l' e f in
      by_test (p n) (λ a. rw (a, h n (omega arith) a) (omega arith))
      (λ a. by_test (q n) (λ b. rw (a, b) (omega arith)) (λ b. rw (a, b) (omega arith))))
      (λ w. let m : count n p ≤ count n q = count_mono n below in
      let a : p n ≡ false = subst (λ y. p y ≡ false) w e in
      let b : q n ≡ true = subst (λ y. q y ≡ true) w f in
      rw (a, b) (omega arith))
      (below_suc l)
    where
      below : (i : ℕ) → i < n → p i ≡ true → q i ≡ true
      below i k = h i (omega arith)

-- something that passes is counted
pub count_some : (n : ℕ) (p : ℕ → Bool) (x : ℕ) → x < n → p x ≡ true → 0 < count n p
count_some n p x l e =
    let h : count n (λ _. false) < count n p = count_strict (λ _. false) p n (λ i _ q. not_both q refl) x l refl e in
    omega arith

-- something that does not pass is not
pub count_less : (n : ℕ) (p : ℕ → Bool) (x : ℕ) → x < n → p x ≡ false → count n p < n
count_less n p x l e =
    let h : count n p < count n (λ _. true) = count_strict p (λ _. true) n (λ i _ q. refl) x l e refl in
    let k : count n (λ _. true) ≤ n = count_le n (λ _. true) in
    omega arith

-- ---- classes: an equivalence as a test
pub record Equivalent (E : ℕ → ℕ → Bool) : Type 0 where
  pub self : (s : ℕ) → E s s ≡ true
  pub turned : (s t : ℕ) → E s t ≡ true → E t s ≡ true
  pub joined : (s t r : ℕ) → E s t ≡ true → E t r ≡ true → E s r ≡ true

-- s is the first of its class, among the numbers that count
pub leads : (ℕ → Bool) → (ℕ → ℕ → Bool) → ℕ → Bool
leads counts E s = both (counts s) (every s (λ t. not (both (counts t) (E t s))))

pub leads_counts : (counts : ℕ → Bool) (E : ℕ → ℕ → Bool) (s : ℕ) → leads counts E s ≡ true → counts s ≡ true
unfolding leads
leads_counts counts E s h = (both_true _ _ h).0

-- a class has a first member
pub leader : (counts : ℕ → Bool) (E : ℕ → ℕ → Bool) → Equivalent E → (b s : ℕ) → s < b → counts s ≡ true →
    (x : ℕ) × (x ≤ s) × (leads counts E x ≡ true) × (E x s ≡ true)
unfolding leads
leader counts E q zero s l h = absurd (not-suc-le-zero l)
leader counts E q (suc b) s l h =
    by_test (every s (λ t. not (both (counts t) (E t s))))
    (λ e. (s, omega arith, both_of h e, q.self s))
    (λ e. let f = every_fails s (λ t. not (both (counts t) (E t s))) e in
    let t : ℕ = f.0 in
    let lt : t < s = f.1 in
    let b' : both (counts t) (E t s) ≡ true = not-false _ f.2 in
    let z = leader counts E q b t (omega arith) (both_true _ _ b').0 in
    let zl : z.0 ≤ t = z.1 in
    (z.0, omega arith, z.2, q.joined z.0 t s z.3 (both_true _ _ b').1))

-- F is finer than E, and tells apart two members that E does not: it has more classes
module _ (n : ℕ) (counts : ℕ → Bool) (E F : ℕ → ℕ → Bool) (q_e : Equivalent E) (q_f : Equivalent F)
    (finer : (s t : ℕ) → F s t ≡ true → E s t ≡ true) where
  leads_finer : (i : ℕ) → leads counts E i ≡ true → leads counts F i ≡ true
  unfolding leads
  leads_finer i h =
      both_of (both_true _ _ h).0
      (every_of i _ (λ t l. by_test (both (counts t) (F t i))
      (λ e. not_both (both_of (both_true _ _ e).0 (finer t i (both_true _ _ e).1)) (not-true _ (every_at i _ (both_true _ _ h).1 t l)))
      (λ e. ap not e)))

  -- the later of two first members of F's classes in one class of E is no first member of E's
  later : (x y : ℕ) → x < y → leads counts F x ≡ true → E x y ≡ true → leads counts E y ≡ false
  unfolding leads
  later x y l hx e =
      by_test (leads counts E y)
      (λ h. not_both (both_of (both_true _ _ hx).0 e) (not-true _ (every_at y _ (both_true _ _ h).1 x l)))
      (λ h. h)

  pub more_classes : (s t : ℕ) → s < n → t < n → counts s ≡ true → counts t ≡ true → E s t ≡ true → F s t ≡ false →
      count n (leads counts E) < count n (leads counts F)
  more_classes s t ls lt hs ht e f =
      let a = leader counts F q_f (suc s) s (omega arith) hs in
      let b = leader counts F q_f (suc t) t (omega arith) ht in
      let la : a.0 ≤ s = a.1 in
      let lb : b.0 ≤ t = b.1 in
      let ab : E a.0 b.0 ≡ true =
      q_e.joined a.0 s b.0 (finer a.0 s a.3) (q_e.joined s t b.0 e (q_e.turned b.0 t (finer b.0 t b.3))) in
      let ne : a.0 ≢ b.0 = λ w. not_both
      (q_f.joined s a.0 t (q_f.turned a.0 s a.3) (subst (λ x. F x t ≡ true) (sym w) b.3)) f in
      order a.0 b.0 (omega arith) (omega arith) a.2 b.2 ab ne
    where
      order : (x y : ℕ) → x < n → y < n → leads counts F x ≡ true → leads counts F y ≡ true → E x y ≡ true → x ≢ y →
          count n (leads counts E) < count n (leads counts F)
      order x y lx ly hx hy e ne = go (dec_lt x y)
        where
          go : Dec (x < y) → count n (leads counts E) < count n (leads counts F)
          go (yes l) = count_strict (leads counts E) (leads counts F) n (λ i _. leads_finer i) y ly (later x y l hx e) hy
          go (no k) =
              count_strict (leads counts E) (leads counts F) n (λ i _. leads_finer i) x lx (later y x (omega arith) hy (q_e.turned x y e)) hx
