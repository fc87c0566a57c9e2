-- Sets of small numbers as the bits of a word: members, unions, sets made from a test, and bounds.
-- Assumes nothing.
use mathlib.Core.Path.{◌≡◌, refl, sym, ◌∙◌, ap, subst}
use mathlib.Core.Bool.{Bool, true, false, cond}
use Prim.Native.Nat.{ℕ, zero, suc, ◌+◌, ◌-◌, ◌*◌, ◌/◌, ◌%◌, ◌^◌, ◌<◌, ◌≤◌, max}
use native.Mathlib.Nat.{div-eq_of_lt, lt_of_lt_of_le, mul-add-mod_self_right, mod-lt, pow-suc, mul_comm, div-div-eq-div-mul, not-suc-le-zero, le_of_suc-le-suc, div-one, one-mul, zero-mul}
use native.Mathlib.Omega.{arith}
use lib.Bits.{bit_or, or_step, or_shr, or_lt}
use lib.Pow.{pow_mono, pow-lt, pow_pos, pow-add, shl-shr, shr_lt, split}
use lib.Dec.{eqb}
use Rattle.laws.specs.Choice.{either}
use borrow.Author.Tests.{eq-eqb, ne_eqb}
use Rattle.laws.proofs.Tests.{by_test, not_both, false_of}
use Rattle.laws.proofs.Range.{by_order}
use Rattle.laws.specs.Sets.{has, including, pack}

-- nothing stands beyond the bits that there are
pub has_beyond : (n set v : ℕ) → set < 2 ^ n → n ≤ v → has set v ≡ false
unfolding has
has_beyond n set v l h = rw (div-eq_of_lt (lt_of_lt_of_le l (pow_mono h)))

pub has_none : (v : ℕ) → has 0 v ≡ false
has_none v = has_beyond 0 0 v (omega arith) (omega arith)

-- a set of which no member is n or more is below 2 ^ n
small_step : (n k set : ℕ) → set < 2 ^ suc (n + k) → has set (n + k) ≡ false → set < 2 ^ (n + k)
unfolding has
small_step n k set l e =
    let p : 0 < 2 ^ (n + k) = pow_pos (n + k) in
    let q = split set (n + k) in
    let r : set % 2 ^ (n + k) < 2 ^ (n + k) = mod-lt set p in
    let d : set / 2 ^ (n + k) < 2 ^ 1 = shr_lt 1 (n + k) (subst (λ x. set < 2 ^ x) (omega arith) l) in
    let z : set / 2 ^ (n + k) ≡ 0 = zero_of (set / 2 ^ (n + k)) d e in
    omega (arith, q, r, rw (z, zero-mul (2 ^ (n + k))) at q)
  where
    zero_of : (x : ℕ) → x < 2 → eqb (x % 2) 1 ≡ false → x ≡ 0
    zero_of zero h f = refl
    zero_of (suc zero) h f = not_both refl f
    zero_of (suc (suc x)) h f = absurd (omega arith)

below_power : (n : ℕ) → n < 2 ^ n
below_power zero = omega arith
below_power (suc n) = let h = below_power n in omega (arith, pow-suc 2 n)

pub small_of : (n set : ℕ) → ((v : ℕ) → has set v ≡ true → v < n) → set < 2 ^ n
small_of n set h = down set (lt_of_lt_of_le (below_power set) (pow_mono {j = n + set} (omega arith)))
  where
    down : (k : ℕ) → set < 2 ^ (n + k) → set < 2 ^ n
    down zero l = subst (λ x. set < 2 ^ x) (omega arith) l
    down (suc k) l =
        down k (small_step n k set (subst (λ x. set < 2 ^ x) (omega arith) l)
        (false_of (λ e. (let q : n + k < n = h (n + k) e in omega arith))))

-- ---- unions
bit_or_lem : (a b : ℕ) → bit_or a b % 2 ≡ max (a % 2) (b % 2)
bit_or_lem a b = rw (or_step a b) (mul-add-mod_self_right (bit_or (a / 2) (b / 2)) 2 (max (a % 2) (b % 2)) ∙ small (a % 2) (b % 2) (mod-lt a (omega arith)) (mod-lt b (omega arith)))
  where
    small : (x y : ℕ) → x < 2 → y < 2 → max x y % 2 ≡ max x y
    small zero zero h g = refl
    small zero (suc zero) h g = refl
    small (suc zero) zero h g = refl
    small (suc zero) (suc zero) h g = refl
    small zero (suc (suc y)) h g = absurd (omega arith)
    small (suc zero) (suc (suc y)) h g = absurd (omega arith)
    small (suc (suc x)) y h g = absurd (omega arith)

either_bit : (x y : ℕ) → x < 2 → y < 2 → eqb (max x y) 1 ≡ either (eqb x 1) (eqb y 1)
unfolding either
either_bit zero zero h g = refl
either_bit zero (suc zero) h g = refl
either_bit (suc zero) zero h g = refl
either_bit (suc zero) (suc zero) h g = refl
either_bit zero (suc (suc y)) h g = absurd (omega arith)
either_bit (suc zero) (suc (suc y)) h g = absurd (omega arith)
either_bit (suc (suc x)) y h g = absurd (omega arith)

pub has_or : (a b v : ℕ) → has (bit_or a b) v ≡ either (has a v) (has b v)
unfolding has
has_or a b v =
    ap (λ n. eqb (n % 2) 1) (or_shr a b v) ∙ ap (λ n. eqb n 1) (bit_or_lem (a / 2 ^ v) (b / 2 ^ v))
    ∙ either_bit (a / 2 ^ v % 2) (b / 2 ^ v % 2) (mod-lt (a / 2 ^ v) (omega arith)) (mod-lt (b / 2 ^ v) (omega arith))

-- ---- single members
has_single : (v u : ℕ) → has (2 ^ v) u ≡ eqb v u
unfolding has
has_single v u =
    by_order v u
    (λ l. rw (div-eq_of_lt (pow-lt l), ne_eqb v u (λ e. omega arith)))
    (λ l. ap (λ x. eqb (x % 2) 1) (above v u l) ∙ ap (λ x. eqb x 1) (even (v - u) (omega arith)) ∙ sym (ne_eqb v u (λ e. omega arith)))
    (λ e. rw (eq-eqb v u e, e) (ap (λ x. eqb (x % 2) 1) (one u)))
  where
    one : (u : ℕ) → 2 ^ u / 2 ^ u ≡ 1
    one u = ap (λ x. x / 2 ^ u) (sym (one-mul (2 ^ u))) ∙ shl-shr 1 u

    above : (v u : ℕ) → u < v → 2 ^ v / 2 ^ u ≡ 2 ^ (v - u)
    above v u l =
        let e : v ≡ (v - u) + u = omega arith in
        ap (λ x. 2 ^ x / 2 ^ u) e ∙ ap (λ x. x / 2 ^ u) (pow-add 2 (v - u) u) ∙ shl-shr (2 ^ (v - u)) u

    even : (k : ℕ) → 0 < k → 2 ^ k % 2 ≡ 0
    even zero l = absurd (omega arith)
    even (suc k) l = omega (arith, pow-suc 2 k)

-- ---- sets made from a test
half : (n : ℕ) (b : Bool) → (n * 2 + cond b 1 0) / 2 ≡ n
half n true = omega arith
half n false = omega arith

has_lowest : (n : ℕ) (b : Bool) → has (n * 2 + cond b 1 0) 0 ≡ b
unfolding has
has_lowest n true = rw div-one (ap (λ x. eqb x 1) (mul-add-mod_self_right n 2 1))
has_lowest n false = rw div-one (ap (λ x. eqb x 1) (mul-add-mod_self_right n 2 0))

has_higher : (n : ℕ) (b : Bool) (i : ℕ) → has (n * 2 + cond b 1 0) (suc i) ≡ has n i
unfolding has
has_higher n b i = rw (pow-suc 2 i, mul_comm (2 ^ i) 2, ← div-div-eq-div-mul (n * 2 + cond b 1 0) 2 (2 ^ i), half n b)

pub has_pack : (test : ℕ → Bool) (n v i : ℕ) → i < n → has (pack test v n) i ≡ test (v + i)
unfolding pack
has_pack test zero v i l = absurd (not-suc-le-zero l)
has_pack test (suc n) v zero l = has_lowest (pack test (v + 1) n) (test v) ∙ ap test (omega arith)
has_pack test (suc n) v (suc i) l =
    has_higher (pack test (v + 1) n) (test v) i ∙ has_pack test n (v + 1) i (le_of_suc-le-suc l) ∙ ap test (omega arith)

-- ---- one member more
pub has_including : (set v u : ℕ) → has (including set v) u ≡ either (has set u) (eqb v u)
unfolding including
has_including set v u = has_or set (2 ^ v) u ∙ ap (either (has set u)) (has_single v u)

pub including_small : (n set v : ℕ) → set < 2 ^ n → v < n → including set v < 2 ^ n
unfolding including
including_small n set v l h = or_lt n set (2 ^ v) l (pow-lt h)

pub pack_small : (test : ℕ → Bool) (n v : ℕ) → pack test v n < 2 ^ n
unfolding pack
pack_small test zero v = omega arith
pack_small test (suc n) v =
    let h : pack test (v + 1) n < 2 ^ n = pack_small test n (v + 1) in
    by_test (test v) (λ e. rw e (omega (arith, pow-suc 2 n))) (λ e. rw e (omega (arith, pow-suc 2 n)))

has_first : (set : ℕ) → has set 0 ≡ eqb (set % 2) 1
unfolding has
has_first set = rw div-one

has_half : (set v : ℕ) → has set (suc v) ≡ has (set / 2) v
unfolding has
has_half set v = rw (pow-suc 2 v, mul_comm (2 ^ v) 2, ← div-div-eq-div-mul set 2 (2 ^ v))

pub same_members : (n a b : ℕ) → a < 2 ^ n → b < 2 ^ n → ((v : ℕ) → v < n → has a v ≡ has b v) → a ≡ b
same_members zero a b l m h = omega arith
same_members (suc n) a b l m h =
    let e : a / 2 ≡ b / 2 = same_members n (a / 2) (b / 2) (omega (arith, pow-suc 2 n)) (omega (arith, pow-suc 2 n)) (λ v k. sym (has_half a v) ∙ h (suc v) (omega arith) ∙ has_half b v) in
    let d : a % 2 ≡ b % 2 = lowest (a % 2) (b % 2) (mod-lt a (omega arith)) (mod-lt b (omega arith)) (sym (has_first a) ∙ h 0 (omega arith) ∙ has_first b) in
    omega (arith, e, d)
  where
    lowest : (x y : ℕ) → x < 2 → y < 2 → eqb x 1 ≡ eqb y 1 → x ≡ y
    lowest zero zero p q k = refl
    lowest (suc zero) (suc zero) p q k = refl
    lowest zero (suc zero) p q k = not_both k refl
    lowest (suc zero) zero p q k = not_both refl k
    lowest (suc (suc x)) y p q k = absurd (omega arith)
    lowest zero (suc (suc y)) p q k = absurd (omega arith)
    lowest (suc zero) (suc (suc y)) p q k = absurd (omega arith)
