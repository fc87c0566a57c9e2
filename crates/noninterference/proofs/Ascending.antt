-- Ascending lists of arrows: no arrow stands twice, the members fix the list, and how such a list is put together.
-- Assumes nothing.
use mathlib.Core.Path.{◌≡◌, refl, sym, ap, subst}
use mathlib.Core.Logic.{◌⊎◌, inl, inr, ⊎_elim, ◌↔◌}
use mathlib.Core.Bool.{Bool, true, false}
use mathlib.Core.List.{List, [], ◌∷◌, ◌++◌, append-nil}
use Prim.Native.Nat.{ℕ, zero, suc, ◌-◌, ◌*◌, ◌<◌, ◌≤◌}
use native.Mathlib.Omega.{arith}
use native.Mathlib.Nat.{suc-mul}
use lib.ListN.{length, length-append}
use Rattle.laws.specs.Choice.{choose}
use Rattle.laws.specs.Range.{count}
use Rattle.laws.proofs.Tests.{by_test}
use Rattle.laws.proofs.Range.{below_suc}
use Rattle.laws.proofs.Count.{count_less}
use Rattle.noninterference.specs.Needed.{Arrow, arrow, Ahead, AllAhead, Ascending, Member, Once}
use Rattle.noninterference.specs.Rounds.{arrows_from, arrows_upto}

-- ---- the order
not_ahead_of_itself : (x : Arrow) → Ahead x x → ⊥
not_ahead_of_itself x h = ⊎_elim (λ l. omega arith) (λ l. omega arith) h

not_both_ahead : (x y : Arrow) → Ahead x y → Ahead y x → ⊥
not_both_ahead x y h g =
    ⊎_elim (λ l. ⊎_elim (λ k. omega arith) (λ k. omega arith) g) (λ l. ⊎_elim (λ k. omega arith) (λ k. omega arith) g) h

ahead_at : (x y : Arrow) (ys : List Arrow) → AllAhead x ys → Member y ys → Ahead x y
ahead_at x y [] h m = absurd m
ahead_at x y (z ∷ zs) h m = ⊎_elim (λ e. subst (Ahead x) (sym e) h.0) (λ k. ahead_at x y zs h.1 k) m

pub ascending_once : (l : List Arrow) → Ascending l → Once l
ascending_once [] h = tt
ascending_once (x ∷ xs) h = (λ m. not_ahead_of_itself x (ahead_at x x xs h.0 m), ascending_once xs h.1)

-- ---- two ascending lists with the same members are one
same_first : (x y : Arrow) (xs ys : List Arrow) → AllAhead x xs → AllAhead y ys → Member x (y ∷ ys) → Member y (x ∷ xs) → x ≡ y
same_first x y xs ys hx hy mx my =
    ⊎_elim (λ e. e)
    (λ p. ⊎_elim (λ e. sym e) (λ q. absurd (not_both_ahead x y (ahead_at x y xs hx q) (ahead_at y x ys hy p))) my) mx

same_rest : (x : Arrow) (xs ys : List Arrow) → AllAhead x xs →
    ((z : Arrow) → Member z (x ∷ xs) → Member z (x ∷ ys)) → (z : Arrow) → Member z xs → Member z ys
same_rest x xs ys h f z m =
    ⊎_elim (λ e. absurd (not_ahead_of_itself x (subst (Ahead x) e (ahead_at x z xs h m)))) (λ k. k) (f z (inr m))

pub ascending_unique : (l m : List Arrow) → Ascending l → Ascending m →
    ((x : Arrow) → Member x l → Member x m) → ((x : Arrow) → Member x m → Member x l) → l ≡ m
ascending_unique [] [] hl hm f g = refl
ascending_unique [] (y ∷ ys) hl hm f g = absurd (g y (inl refl))
ascending_unique (x ∷ xs) [] hl hm f g = absurd (f x (inl refl))
ascending_unique (x ∷ xs) (y ∷ ys) hl hm f g =
    let e : x ≡ y = same_first x y xs ys hl.0 hm.0 (f x (inl refl)) (g y (inl refl)) in
    let f' : (z : Arrow) → Member z (x ∷ xs) → Member z (x ∷ ys) = subst (λ w. (z : Arrow) → Member z (x ∷ xs) → Member z (w ∷ ys)) (sym e) f in
    let g' : (z : Arrow) → Member z (x ∷ ys) → Member z (x ∷ xs) = subst (λ w. (z : Arrow) → Member z (w ∷ ys) → Member z (x ∷ xs)) (sym e) g in
    let tail : xs ≡ ys =
    ascending_unique xs ys hl.1 hm.1 (same_rest x xs ys hl.0 f') (same_rest x ys xs (subst (λ w. AllAhead w ys) (sym e) hm.0) g') in
    cc

-- ---- lists put together
member_append : (x : Arrow) (xs ys : List Arrow) → Member x (xs ++ ys) ↔ (Member x xs ⊎ Member x ys)
member_append x [] ys = (λ h. inr h, λ h. ⊎_elim (λ k. absurd k) (λ k. k) h)
member_append x (z ∷ zs) ys = (
  λ h. ⊎_elim (λ e. inl (inl e)) (λ k. ⊎_elim (λ a. inl (inr a)) (λ b. inr b) ((member_append x zs ys).0 k)) h,
  λ h. ⊎_elim (λ k. ⊎_elim (λ e. inl e) (λ a. inr ((member_append x zs ys).1 (inl a))) k) (λ b. inr ((member_append x zs ys).1 (inr b))) h,
)

all_ahead : (x : Arrow) (ys : List Arrow) → ((y : Arrow) → Member y ys → Ahead x y) → AllAhead x ys
all_ahead x [] h = tt
all_ahead x (y ∷ ys) h = (h y (inl refl), all_ahead x ys (λ z m. h z (inr m)))

ascending_append : (xs ys : List Arrow) → Ascending xs → Ascending ys →
    ((x y : Arrow) → Member x xs → Member y ys → Ahead x y) → Ascending (xs ++ ys)
ascending_append [] ys hx hy h = hy
ascending_append (x ∷ xs) ys hx hy h = (
  all_ahead x (xs ++ ys) (λ y m. ⊎_elim (λ a. ahead_at x y xs hx.0 a) (λ b. h x y (inl refl) b) ((member_append y xs ys).0 m)),
  ascending_append xs ys hx.1 hy (λ z y a b. h z y (inr a) b),
)

-- ---- the arrows that pass a test
module _ (test : ℕ → ℕ → Bool) where
  -- one number on
  last : ℕ → ℕ → List Arrow
  last v n = choose (test v n) (arrow v n ∷ []) []

  from_next : (v n : ℕ) → arrows_from test v (suc n) ≡ arrows_from test v n ++ last v n
  unfolding arrows_from last choose
  from_next v n = by_test (test v n) (λ e. rw e) (λ e. rw e (sym (append-nil (arrows_from test v n))))

  last_only : (v n : ℕ) (x : Arrow) → Member x (last v n) → (x ≡ arrow v n) × (test v n ≡ true)
  unfolding last choose
  last_only v n x m = by_test (test v n) (λ e. (⊎_elim (λ q. q) (λ q. absurd q) (rw e at m), e)) (λ e. absurd (rw e at m))

  last_each : (v n : ℕ) → test v n ≡ true → Member (arrow v n) (last v n)
  unfolding last choose
  last_each v n e = rw e (inl refl)

  last_ascending : (v n : ℕ) → Ascending (last v n)
  unfolding last choose
  last_ascending v n = by_test (test v n) (λ e. rw e (tt, tt)) (λ e. rw e tt)

  from_only : (v n : ℕ) (x : Arrow) → Member x (arrows_from test v n) → (x.source ≡ v) × (x.target < n) × (test v x.target ≡ true)
  unfolding arrows_from
  from_only v zero x m = absurd m
  from_only v (suc n) x m =
      ⊎_elim
      (λ a. let f = from_only v n x a in let l : x.target < n = f.1 in (f.0, omega arith, f.2))
      (λ b. let f = last_only v n x b in
      let s : x.source ≡ v = ap (λ y. y.source) f.0 in
      let t : x.target ≡ n = ap (λ y. y.target) f.0 in
      (s, omega arith, subst (λ y. test v y ≡ true) (sym t) f.1))
      ((member_append x (arrows_from test v n) (last v n)).0 (subst (Member x) (from_next v n) m))

  from_each : (v n u : ℕ) → u < n → test v u ≡ true → Member (arrow v u) (arrows_from test v n)
  from_each v zero u l e = absurd (omega arith)
  from_each v (suc n) u l e =
      subst (Member (arrow v u)) (sym (from_next v n))
      ((member_append (arrow v u) (arrows_from test v n) (last v n)).1
      (⊎_elim (λ k. inl (from_each v n u k e))
      (λ q. inr (subst (λ y. Member (arrow v y) (last v n)) (sym q) (last_each v n (subst (λ y. test v y ≡ true) q e)))) (below_suc l)))

  from_ascending : (v n : ℕ) → Ascending (arrows_from test v n)
  unfolding arrows_from
  from_ascending v zero = tt
  from_ascending v (suc n) =
      subst Ascending (sym (from_next v n))
      (ascending_append (arrows_from test v n) (last v n) (from_ascending v n) (last_ascending v n)
      (λ x y a b. let f = from_only v n x a in
      let g = last_only v n y b in
      let s : x.source ≡ v = f.0 in
      let l : x.target < n = f.1 in
      let s' : y.source ≡ v = ap (λ z. z.source) g.0 in
      let t' : y.target ≡ n = ap (λ z. z.target) g.0 in
      inr (omega arith, omega arith)))

  from_length : (v n : ℕ) → length (arrows_from test v n) ≡ count n (test v)
  unfolding arrows_from count choose
  from_length v zero = refl
  from_length v (suc n) =
      let h : length (arrows_from test v n) ≡ count n (test v) = from_length v n in
      by_test (test v n) (λ e. rw (e, length-append) (omega arith)) (λ e. rw e h)

  pub upto_only : (n k : ℕ) (x : Arrow) → Member x (arrows_upto test n k) → (x.source < k) × (x.target < n) × (test x.source x.target ≡ true)
  unfolding arrows_upto
  upto_only n zero x m = absurd m
  upto_only n (suc k) x m =
      ⊎_elim (λ a. let f = upto_only n k x a in let l : x.source < k = f.0 in (omega arith, f.1, f.2))
      (λ b. let f = from_only k n x b in let q : x.source ≡ k = f.0 in (omega arith, f.1, subst (λ y. test y x.target ≡ true) (sym q) f.2))
      ((member_append x (arrows_upto test n k) (arrows_from test k n)).0 m)

  pub upto_each : (n k v u : ℕ) → v < k → u < n → test v u ≡ true → Member (arrow v u) (arrows_upto test n k)
  unfolding arrows_upto
  upto_each n zero v u lv lu e = absurd (omega arith)
  upto_each n (suc k) v u lv lu e =
      (member_append (arrow v u) (arrows_upto test n k) (arrows_from test k n)).1
      (⊎_elim (λ l. inl (upto_each n k v u l lu e))
      (λ q. inr (subst (λ y. Member (arrow v u) (arrows_from test y n)) q (from_each v n u lu e))) (below_suc lv))

  pub upto_ascending : (n k : ℕ) → Ascending (arrows_upto test n k)
  unfolding arrows_upto
  upto_ascending n zero = tt
  upto_ascending n (suc k) =
      ascending_append (arrows_upto test n k) (arrows_from test k n) (upto_ascending n k) (from_ascending k n)
      (λ x y a b. let l : x.source < k = (upto_only n k x a).0 in let e : y.source ≡ k = (from_only k n y b).0 in inl (omega arith))

  -- at most n - 1 arrows from each box, where none leads back to it
  pub upto_length : (n : ℕ) → ((v : ℕ) → v < n → test v v ≡ false) → (k : ℕ) → k ≤ n → length (arrows_upto test n k) ≤ k * (n - 1)
  unfolding arrows_upto
  upto_length n h zero l = omega arith
  upto_length n h (suc k) l =
      let a : length (arrows_upto test n k) ≤ k * (n - 1) = upto_length n h k (omega arith) in
      let b : count n (test k) < n = count_less n (test k) k (omega arith) (h k (omega arith)) in
      let c : length (arrows_from test k n) ≡ count n (test k) = from_length k n in
      simp (length-append, suc-mul) (omega arith)
