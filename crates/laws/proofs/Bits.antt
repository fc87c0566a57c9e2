-- Sets of places as the bits of a number: what is in a set after a place is cut out, put in, drawn or erased, and what the code computes.
-- Assumes nothing.
use mathlib.Core.Path.{◌≡◌, refl, sym, ap, ◌∙◌}
use Prim.Native.Nat.{ℕ, zero, suc, ◌+◌, ◌-◌, ◌*◌, ◌/◌, ◌%◌, ◌^◌, ◌<◌, ◌≤◌}
use native.Mathlib.Nat.{div-one, mod-one, pow-suc, not-suc-le-zero, le_of_suc-le-suc, div-div-eq-div-mul, one-le-pow, pow-le-pow_right, mul_comm}
use native.Mathlib.Numerals.{add-one}
use native.Mathlib.Omega.{arith}
use lib.Arith.{mod-mul}
use Rattle.laws.specs.Bits.{bit, cut, put, gather}

pub half : (b y : ℕ) → b < 2 → (b + 2 * y) / 2 ≡ y
half b y l = omega arith

pub last : (b y : ℕ) → b < 2 → (b + 2 * y) % 2 ≡ b
last b y l = omega arith

pub bit_below : (k x : ℕ) → bit k x < 2
unfolding bit
bit_below zero x = omega arith
bit_below (suc k) x = bit_below k (x / 2)

-- a place that was cut out, put back
pub put_cut : (p x : ℕ) → put p (bit p x) (cut p x) ≡ x
unfolding bit cut put
put_cut zero x = omega arith
put_cut (suc p) x =
    rw (half (x % 2) (cut p (x / 2)) (omega arith), last (x % 2) (cut p (x / 2)) (omega arith), put_cut p (x / 2)) (omega arith)

pub bit_gather : (m n k : ℕ) (f : ℕ → ℕ) → ((j : ℕ) → f j < 2) → m < n → bit m (gather k n f) ≡ f (k + m)
unfolding bit gather
bit_gather m zero k f s l = absurd (not-suc-le-zero l)
bit_gather zero (suc n) k f s l = last (f k) (gather (k + 1) n f) (s k) ∙ ap f (omega arith)
bit_gather (suc m) (suc n) k f s l =
    rw (half (f k) (gather (k + 1) n f) (s k)) (bit_gather m n (k + 1) f s (le_of_suc-le-suc l) ∙ ap f (omega arith))

-- what the code computes
pub bit_is : (k x : ℕ) → x / 2 ^ k % 2 ≡ bit k x
unfolding bit
bit_is zero x = rw (div-one x)
bit_is (suc k) x = ap (λ (n : ℕ). x / n % 2) (pow-suc 2 k ∙ mul_comm (2 ^ k) 2) ∙ ap (λ (n : ℕ). n % 2) (sym (div-div-eq-div-mul x 2 (2 ^ k))) ∙ bit_is k (x / 2)

split_mod : (p x : ℕ) → x % 2 ^ suc p ≡ x % 2 + 2 * (x / 2 % 2 ^ p)
split_mod p x = ap (λ (n : ℕ). x % n) (pow-suc 2 p) ∙ mod-mul x (one-le-pow p 2 (omega arith)) (omega arith) ∙ omega arith

split_div : (p x : ℕ) → x / 2 ^ suc p ≡ x / 2 / 2 ^ p
split_div p x = ap (λ (n : ℕ). x / n) (pow-suc 2 p ∙ mul_comm (2 ^ p) 2) ∙ sym (div-div-eq-div-mul x 2 (2 ^ p))

pub cut_is : (p x : ℕ) → x % 2 ^ p + x / 2 ^ p / 2 * 2 ^ p ≡ cut p x
unfolding cut
cut_is zero x = rw (div-one x, mod-one x) (omega arith)
cut_is (suc p) x = rw (split_mod p x, split_div p x, pow-suc 2 p) (omega (arith, cut_is p (x / 2)))

pub put_is : (p b x : ℕ) → x % 2 ^ p + (x / 2 ^ p * 2 + b) * 2 ^ p ≡ put p b x
unfolding put
put_is zero b x = rw (div-one x, mod-one x) (omega arith)
put_is (suc p) b x = rw (split_mod p x, split_div p x, pow-suc 2 p) (omega (arith, put_is p b (x / 2)))

pub power_small : (p n : ℕ) → p ≤ n → 2 ^ p ≤ 2 ^ n
power_small p n l = pow-le-pow_right (omega arith) l

pub power_pos : (p : ℕ) → 0 < 2 ^ p
power_pos p = one-le-pow p 2 (omega arith)

pub gather_small : (k n : ℕ) (f : ℕ → ℕ) → ((j : ℕ) → f j < 2) → gather k n f < 2 ^ n
unfolding gather
gather_small k zero f s = omega arith
gather_small k (suc n) f s = rw (pow-suc 2 n) (omega (arith, gather_small (k + 1) n f s, s k))

-- ---- what the edits do to the bits
pub cut_none : (p : ℕ) → cut p 0 ≡ 0
unfolding cut
cut_none zero = refl
cut_none (suc p) = rw (cut_none p)

pub cut_small : (p n x : ℕ) → p ≤ n → x < 2 ^ suc n → cut p x < 2 ^ n
unfolding cut
cut_small zero n x l s = omega (arith, pow-suc 2 n)
cut_small (suc p) zero x l s = absurd (not-suc-le-zero l)
cut_small (suc p) (suc n) x l s =
    let h : x / 2 < 2 ^ suc n = omega (arith, pow-suc 2 (suc n)) in
    omega (arith, pow-suc 2 n, cut_small p n (x / 2) (le_of_suc-le-suc l) h)

pub bit_cut_below : (p m x : ℕ) → m < p → bit m (cut p x) ≡ bit m x
unfolding bit cut
bit_cut_below zero m x l = absurd (not-suc-le-zero l)
bit_cut_below (suc p) zero x l = last (x % 2) (cut p (x / 2)) (omega arith)
bit_cut_below (suc p) (suc m) x l = rw (half (x % 2) (cut p (x / 2)) (omega arith)) (bit_cut_below p m (x / 2) (le_of_suc-le-suc l))

pub bit_cut_above : (p m x : ℕ) → p ≤ m → bit m (cut p x) ≡ bit (suc m) x
unfolding bit cut
bit_cut_above zero m x l = refl
bit_cut_above (suc p) zero x l = absurd (not-suc-le-zero l)
bit_cut_above (suc p) (suc m) x l = rw (half (x % 2) (cut p (x / 2)) (omega arith)) (bit_cut_above p m (x / 2) (le_of_suc-le-suc l))

add_half : (x m : ℕ) → (x + m * 2) / 2 ≡ x / 2 + m
add_half x m = omega arith

add_last : (x m : ℕ) → (x + m * 2) % 2 ≡ x % 2
add_last x m = omega arith

even_next : (x : ℕ) → x % 2 ≡ 0 → (x + 1) / 2 ≡ x / 2
even_next x e = omega arith

pub bit_draw : (j m x : ℕ) → (m ≡ j → ⊥) → bit j x ≡ 0 → bit m (x + 2 ^ j) ≡ bit m x
unfolding bit
bit_draw zero zero x n e = absurd (n refl)
bit_draw zero (suc m) x n e = rw (even_next x e)
bit_draw (suc j) zero x n e = rw (pow-suc 2 j, add_last x (2 ^ j))
bit_draw (suc j) (suc m) x n e = rw (pow-suc 2 j, add_half x (2 ^ j)) (bit_draw j m (x / 2) (λ q. n (ap suc q)) e)

pub bit_drawn : (j x : ℕ) → bit j x ≡ 0 → bit j (x + 2 ^ j) ≡ 1
unfolding bit
bit_drawn zero x e = omega arith
bit_drawn (suc j) x e = rw (pow-suc 2 j, add_half x (2 ^ j)) (bit_drawn j (x / 2) e)

pub draw_small : (j n x : ℕ) → j < n → x < 2 ^ n → bit j x ≡ 0 → x + 2 ^ j < 2 ^ n
unfolding bit
draw_small j zero x l s e = absurd (not-suc-le-zero l)
draw_small zero (suc n) x l s e = omega (arith, pow-suc 2 n)
draw_small (suc j) (suc n) x l s e =
    let h : x / 2 < 2 ^ n = omega (arith, pow-suc 2 n) in
    omega (arith, pow-suc 2 n, pow-suc 2 j, draw_small j n (x / 2) (le_of_suc-le-suc l) h e)

sub_half : (x m : ℕ) → m ≤ x / 2 → (x - m * 2) / 2 ≡ x / 2 - m
sub_half x m l = omega arith

sub_last : (x m : ℕ) → m ≤ x / 2 → (x - m * 2) % 2 ≡ x % 2
sub_last x m l = omega arith

odd_less : (x : ℕ) → x % 2 ≡ 1 → (x - 1) / 2 ≡ x / 2
odd_less x e = omega arith

-- a bit that is set is part of the number
pub bit_part : (k x : ℕ) → bit k x ≡ 1 → 2 ^ k ≤ x
unfolding bit
bit_part zero x e = omega arith
bit_part (suc k) x e = rw (pow-suc 2 k) (omega (arith, bit_part k (x / 2) e))

pub bit_erase : (j m x : ℕ) → (m ≡ j → ⊥) → bit j x ≡ 1 → bit m (x - 2 ^ j) ≡ bit m x
unfolding bit
bit_erase zero zero x n e = absurd (n refl)
bit_erase zero (suc m) x n e = rw (odd_less x e)
bit_erase (suc j) zero x n e = rw (pow-suc 2 j, sub_last x (2 ^ j) (bit_part j (x / 2) e))
bit_erase (suc j) (suc m) x n e = rw (pow-suc 2 j, sub_half x (2 ^ j) (bit_part j (x / 2) e)) (bit_erase j m (x / 2) (λ q. n (ap suc q)) e)

pub bit_erased : (j x : ℕ) → bit j x ≡ 1 → bit j (x - 2 ^ j) ≡ 0
unfolding bit
bit_erased zero x e = omega arith
bit_erased (suc j) x e = rw (pow-suc 2 j, sub_half x (2 ^ j) (bit_part j (x / 2) e)) (bit_erased j (x / 2) e)

pub bit_none : (k : ℕ) → bit k 0 ≡ 0
unfolding bit
bit_none zero = refl
bit_none (suc k) = bit_none k

pub put_none : (p : ℕ) → put p 0 0 ≡ 0
unfolding put
put_none zero = refl
put_none (suc p) = rw (put_none p)

pub put_small : (p n b x : ℕ) → p ≤ n → b < 2 → x < 2 ^ n → put p b x < 2 ^ suc n
unfolding put
put_small zero n b x l s t = rw (pow-suc 2 n) (omega arith)
put_small (suc p) zero b x l s t = absurd (not-suc-le-zero l)
put_small (suc p) (suc n) b x l s t =
    let h : x / 2 < 2 ^ n = omega (arith, pow-suc 2 n) in
    rw (pow-suc 2 (suc n)) (omega (arith, put_small p n b (x / 2) (le_of_suc-le-suc l) s h))

pub put_room : (p b x m : ℕ) → m ≡ 2 ^ p → p ≤ 31 → b < 2 → x < 2 ^ 31 → x % m + (x / m * 2 + b) * m < 4294967296
put_room p b x m e l s t = rw (e, put_is p b x) (put_small p 31 b x l s t)

-- ---- a place that was put in
pub bit_put : (p b x : ℕ) → b < 2 → bit p (put p b x) ≡ b
unfolding bit put
bit_put zero b x s = last b x s
bit_put (suc p) b x s = rw (half (x % 2) (put p b (x / 2)) (omega arith)) (bit_put p b (x / 2) s)

pub cut_put : (p b x : ℕ) → b < 2 → cut p (put p b x) ≡ x
unfolding cut put
cut_put zero b x s = half b x s
cut_put (suc p) b x s =
    rw (half (x % 2) (put p b (x / 2)) (omega arith), last (x % 2) (put p b (x / 2)) (omega arith), cut_put p b (x / 2) s) (omega arith)

pub bit_put_below : (p m b x : ℕ) → b < 2 → m < p → bit m (put p b x) ≡ bit m x
bit_put_below p m b x s l = sym (bit_cut_below p m (put p b x) l) ∙ ap (bit m) (cut_put p b x s)

pub bit_put_above : (p m b x : ℕ) → b < 2 → p ≤ m → bit (suc m) (put p b x) ≡ bit m x
bit_put_above p m b x s l = sym (bit_cut_above p m (put p b x) l) ∙ ap (bit m) (cut_put p b x s)

-- ---- the places of a small set
pub bit_high : (n k x : ℕ) → x < 2 ^ n → n ≤ k → bit k x ≡ 0
unfolding bit
bit_high zero k x l b = let e : x ≡ 0 = omega arith in ap (bit k) e ∙ bit_none k
bit_high (suc n) zero x l b = absurd (not-suc-le-zero b)
bit_high (suc n) (suc k) x l b = bit_high n k (x / 2) (omega (arith, pow-suc 2 n)) (le_of_suc-le-suc b)

-- without its highest place a set is smaller
pub small_without : (n x : ℕ) → x < 2 ^ suc n → bit n x ≡ 0 → x < 2 ^ n
unfolding bit
small_without zero x l e = omega (arith, pow-suc 2 0)
small_without (suc n) x l e =
    let h : x / 2 < 2 ^ suc n = omega (arith, pow-suc 2 (suc n)) in
    omega (arith, pow-suc 2 n, small_without n (x / 2) h e)

-- a word's own width holds it
pub small_wide : (n w x : ℕ) → x < 2 ^ w → w ≤ n → x < 2 ^ n
small_wide n w x l b = omega (arith, power_small w n b)

-- ---- gathered places
pub gather_same : (k n : ℕ) (f g : ℕ → ℕ) → ((j : ℕ) → k ≤ j → j < k + n → f j ≡ g j) → gather k n f ≡ gather k n g
unfolding gather
gather_same k zero f g h = refl
gather_same k (suc n) f g h = rw (h k (omega arith) (omega arith), gather_same (k + 1) n f g (λ j a b. h j (omega arith) (omega arith)))

gather_shift : (k n : ℕ) (f : ℕ → ℕ) → gather (k + 1) n f ≡ gather k n (λ j. f (j + 1))
unfolding gather
gather_shift k zero f = refl
gather_shift k (suc n) f = rw (gather_shift (k + 1) n f)

-- the places of a set, gathered
pub gather_bits : (n c : ℕ) → c < 2 ^ n → gather 0 n (λ k. bit k c) ≡ c
unfolding gather bit
gather_bits zero c l = omega arith
gather_bits (suc n) c l =
    let h : c / 2 < 2 ^ n = omega (arith, pow-suc 2 n) in
    rw (gather_shift 0 n (λ k. bit k c), gather_same 0 n (λ j. bit (j + 1) c) (λ j. bit j (c / 2)) (λ j _ _. rw (add-one j)), gather_bits n (c / 2) h) (omega arith)

-- no place from m on
pub gather_below : (m k n : ℕ) (f : ℕ → ℕ) → ((j : ℕ) → f j < 2) → ((j : ℕ) → k + m ≤ j → f j ≡ 0) → gather k n f < 2 ^ m
unfolding gather
gather_below m k zero f s z = power_pos m
gather_below zero k (suc n) f s z = omega (arith, z k (omega arith), gather_below zero (k + 1) n f s (λ j b. z j (omega arith)))
gather_below (suc m) k (suc n) f s z = rw (pow-suc 2 m) (omega (arith, s k, gather_below m (k + 1) n f s (λ j b. z j (omega arith))))
