-- Laws of numbers: one byte more of a number's field, and that reading what was written gives the number. Assumes nothing.
use Rattle.std.proofs.Common.{◌≡◌, ℕ, zero, suc, ◌+◌, ◌-◌, ◌*◌, ◌/◌, ◌%◌, ◌^◌, ◌<◌, ◌≤◌, Bool, true, false, cond, ◌||◌, eqb, ltb, Option, Some, None, List, [], ◌∷◌, ◌++◌, length, get_or, take, drop, sym, refl, ap, ◌∙◌, pow-suc, arith, length-append, ltb-false, le-ltb, lt-ltb, ne_eqb}
use native.Mathlib.Decide.{dec_lt}
use Rattle.text.specs.declared.Field.{Field}
use Rattle.text.specs.Number.{on_number, digit, more, number, digits, decimal}
use Rattle.text.specs.Lines.{before, end_of, field_from, number_from, more_from}
use Rattle.text.proofs.Parts.{field_here, field_past, field_over, end_here, end_past, end_over}

abbrev pub found : Option ℕ → ℕ → Field
found n e = record { number = n; end = e }

-- no byte below 48 is a digit, a tab and LF among them
digit_low : (limit v d : ℕ) → d < 48 → digit limit v d ≡ None
unfolding digit
digit_low limit v d e = simp (lt-ltb d 48 e)

pub digit_not_low : (limit v d w : ℕ) → digit limit v d ≡ Some w → d < 48 → ⊥
digit_not_low limit v d w g e = let z : Some w ≡ None = sym g ∙ digit_low limit v d e in let y : ◌≡◌ {A = ℕ} 0 1 = cc in omega arith

pub digit_no_tab : (limit v d w : ℕ) → digit limit v d ≡ Some w → d ≡ 9 → ⊥
digit_no_tab limit v d w g e = digit_not_low limit v d w g (omega arith)

-- a number that has begun stays above 0
pub digit_some : (limit v d w : ℕ) → digit limit v d ≡ Some w → 0 < v → 0 < w
unfolding digit
digit_some limit v d w h p = go (ltb d 48 || ltb 57 d || ltb limit (v * 10 + (d - 48))) h
  where
    go : (t : Bool) → cond t None (Some (v * 10 + (d - 48))) ≡ Some w → 0 < w
    go true h = let z : ◌≡◌ {A = ℕ} 0 1 = cc in absurd (omega arith)
    go false h = let z : v * 10 + (d - 48) ≡ w = cc in omega arith

module _ (limit : ℕ) (l : List ℕ) (i : ℕ) where
  pub more_over : (v : ℕ) → length l ≤ i → found (Some v) i ≡ more_from limit l i v
  unfolding more
  more_over v h = sym (rw (field_over l i h, end_over l 9 i h))

  pub number_over : length l ≤ i → found None i ≡ number_from limit l i
  unfolding number
  number_over h = sym (rw (field_over l i h, end_over l 9 i h))

  module _ (h : i < length l) where
    pub more_here : (v : ℕ) → get_or l i 0 ≡ 9 → found (Some v) i ≡ more_from limit l i v
    unfolding more
    more_here v e = sym (rw (field_here l i h e, end_here l 9 i h e))

    module _ (n : get_or l i 0 ≡ 9 → ⊥) where
      pub more_bad : (v : ℕ) → (v ≡ 0 → ⊥) → digit limit v (get_or l i 0) ≡ None → found None (end_of 9 l i) ≡ more_from limit l i v
      unfolding more
      more_bad v z b = rw (field_past l i h n) (simp (ne_eqb v 0 z, b))

      pub more_good : (v w : ℕ) → (v ≡ 0 → ⊥) → digit limit v (get_or l i 0) ≡ Some w → more_from limit l (i + 1) w ≡ more_from limit l i v
      unfolding more
      more_good v w z g = sym (rw (field_past l i h n, end_past l 9 i h n) (simp (ne_eqb v 0 z, g)))

    pub number_bad : digit limit 0 (get_or l i 0) ≡ None → found None (end_of 9 l i) ≡ number_from limit l i
    unfolding number
    number_bad b = go (dec_lt (get_or l i 0) 10)
      where
        other : (get_or l i 0 ≡ 9 → ⊥) → found None (end_of 9 l i) ≡ number_from limit l i
        other n = rw (field_past l i h n) (simp b)

        go : Dec (get_or l i 0 < 10) → found None (end_of 9 l i) ≡ number_from limit l i
        go (no g) = other (λ e. omega arith)
        go (yes g) = go2 (dec_lt (get_or l i 0) 9)
          where
            go2 : Dec (get_or l i 0 < 9) → found None (end_of 9 l i) ≡ number_from limit l i
            go2 (yes k) = other (λ e. omega arith)
            go2 (no k) = rw (field_here l i h (omega arith))

    pub number_good : (w : ℕ) → digit limit 0 (get_or l i 0) ≡ Some w → more_from limit l (i + 1) w ≡ number_from limit l i
    unfolding number
    number_good w g = sym (rw (field_past l i h no_tab, end_past l 9 i h no_tab) (simp g))
      where
        no_tab : get_or l i 0 ≡ 9 → ⊥
        no_tab = digit_no_tab limit 0 (get_or l i 0) w g

-- behind a first digit 0 nothing may stand
module _ (l : List ℕ) (i e : ℕ) (h : e ≡ end_of 9 l i) where
  pub zero_good : e ≡ i → found (Some 0) e ≡ more_from 0 l i 0
  unfolding more
  zero_good g = let z : before 9 (drop i l) ≡ 0 = omega arith in rw (h, z)

  pub zero_bad : (e ≡ i → ⊥) → found None e ≡ more_from 0 l i 0
  unfolding more before
  zero_bad g = go (drop i l) (λ z. g (omega arith))
    where
      go : (f : List ℕ) → (before 9 f ≡ 0 → ⊥) → found None e ≡ found (more 0 (take (before 9 f) f) 0) (end_of 9 l i)
      go [] n = absurd (n refl)
      go (x ∷ xs) n = go2 (eqb x 9) n
        where
          go2 : (t : Bool) → (cond t 0 (suc (before 9 xs)) ≡ 0 → ⊥) → found None e ≡ found (more 0 (take (cond t 0 (suc (before 9 xs))) (x ∷ xs)) 0) (end_of 9 l i)
          go2 true n = absurd (n refl)
          go2 false n = rw h

-- behind a first digit 0 the limit has no say
pub zero_any : (limit : ℕ) (l : List ℕ) (i : ℕ) → more_from 0 l i 0 ≡ more_from limit l i 0
unfolding more
zero_any limit l i = go (field_from l i)
  where
    go : (f : List ℕ) → found (more 0 f 0) (end_of 9 l i) ≡ found (more limit f 0) (end_of 9 l i)
    go [] = refl
    go (d ∷ ds) = refl

-- a number is at most its limit
digit_limit : (limit v d w : ℕ) → digit limit v d ≡ Some w → w ≤ limit
unfolding digit
digit_limit limit v d w h = go (ltb d 48 || ltb 57 d) (ltb limit (v * 10 + (d - 48))) refl h
  where
    go : (s t : Bool) → ltb limit (v * 10 + (d - 48)) ≡ t → cond (s || t) None (Some (v * 10 + (d - 48))) ≡ Some w → w ≤ limit
    go true t q h = let z : ◌≡◌ {A = ℕ} 0 1 = cc in absurd (omega arith)
    go false true q h = let z : ◌≡◌ {A = ℕ} 0 1 = cc in absurd (omega arith)
    go false false q h = let z : v * 10 + (d - 48) ≡ w = cc in omega (arith, ltb-false limit (v * 10 + (d - 48)) q)

more_limit : (limit : ℕ) (ds : List ℕ) (v w : ℕ) → v ≤ limit → more limit ds v ≡ Some w → w ≤ limit
unfolding more
more_limit limit [] v w p h = let z : v ≡ w = cc in omega arith
more_limit limit (d ∷ ds) v w p h = go (more_limit limit ds) (eqb v 0) (digit limit v d) refl h
  where
    go : ((v w : ℕ) → v ≤ limit → more limit ds v ≡ Some w → w ≤ limit) → (t : Bool) (n : Option ℕ) → digit limit v d ≡ n → cond t None (on_number n (more limit ds) None) ≡ Some w → w ≤ limit
    go f true n q h = let z : ◌≡◌ {A = ℕ} 0 1 = cc in absurd (omega arith)
    go f false (Some u) q h = f u w (digit_limit limit v d u q) h
    go f false None q h = let z : ◌≡◌ {A = ℕ} 0 1 = cc in absurd (omega arith)

pub number_limit : (limit : ℕ) (ds : List ℕ) (w : ℕ) → number limit ds ≡ Some w → w ≤ limit
unfolding number
number_limit limit [] w h = let z : ◌≡◌ {A = ℕ} 0 1 = cc in absurd (omega arith)
number_limit limit (d ∷ ds) w h = go (digit limit 0 d) refl h
  where
    go : (n : Option ℕ) → digit limit 0 d ≡ n → on_number n (more limit ds) None ≡ Some w → w ≤ limit
    go (Some u) q h = more_limit limit ds u w (digit_limit limit 0 d u q) h
    go None q h = let z : ◌≡◌ {A = ℕ} 0 1 = cc in absurd (omega arith)

-- a byte after a value that is not 0
digit_good : (limit v d : ℕ) → d < 10 → v * 10 + d ≤ limit → digit limit v (48 + d) ≡ Some (v * 10 + d)
unfolding digit
digit_good limit v d h g =
    let e : 48 + d - 48 ≡ d = omega arith in
    rw e (simp (le-ltb (48 + d) 48 (omega arith), le-ltb 57 (48 + d) (omega arith), le-ltb limit (v * 10 + d) g))

-- a byte by how far it stands behind the digit 0, where the difference wraps
module _ (limit v d b : ℕ) (g : b < 256) (w : d ≡ (b + 4294967248) % 4294967296) where
  pub digit_far : 9 < d → None ≡ digit limit v b
  unfolding digit
  digit_far h = go (dec_lt b 48)
    where
      go : Dec (b < 48) → None ≡ cond (ltb b 48 || ltb 57 b || ltb limit (v * 10 + (b - 48))) None (Some (v * 10 + (b - 48)))
      go (yes k) = simp (lt-ltb b 48 k)
      go (no k) = simp (le-ltb b 48 (omega arith), lt-ltb 57 b (omega arith))

  module _ (h : d ≤ 9) where
    near : b ≡ 48 + d
    near = omega arith

    pub digit_over : limit < v * 10 + d → None ≡ digit limit v b
    unfolding digit
    digit_over g =
        let e : 48 + d - 48 ≡ d = omega arith in
        rw (near, e) (simp (le-ltb (48 + d) 48 (omega arith), le-ltb 57 (48 + d) (omega arith), lt-ltb limit (v * 10 + d) g))

    pub digit_within : v * 10 + d ≤ limit → Some (v * 10 + d) ≡ digit limit v b
    digit_within g = sym (rw near (digit_good limit v d (omega arith) g))

more_append : (limit : ℕ) (xs ys : List ℕ) (v : ℕ) → more limit (xs ++ ys) v ≡ on_number (more limit xs v) (more limit ys) None
unfolding more
more_append limit [] ys v = refl
more_append limit (x ∷ xs) ys v = go (more_append limit xs ys) (eqb v 0) (digit limit v x)
  where
    go : ((w : ℕ) → more limit (xs ++ ys) w ≡ on_number (more limit xs w) (more limit ys) None) → (t : Bool) (n : Option ℕ) → cond t None (on_number n (more limit (xs ++ ys)) None) ≡ on_number (cond t None (on_number n (more limit xs) None)) (more limit ys) None
    go f true n = refl
    go f false (Some w) = f w
    go f false None = refl

number_append : (limit : ℕ) (xs ys : List ℕ) → 0 < length xs → number limit (xs ++ ys) ≡ on_number (number limit xs) (more limit ys) None
unfolding number
number_append limit [] ys h = absurd (omega arith)
number_append limit (x ∷ xs) ys h = go (digit limit 0 x)
  where
    go : (n : Option ℕ) → on_number n (more limit (xs ++ ys)) None ≡ on_number (on_number n (more limit xs) None) (more limit ys) None
    go (Some w) = more_append limit xs ys w
    go None = refl

-- a number has at least one digit, and at most as many as it may
digits_some : (f v : ℕ) → 0 < length (digits (suc f) v)
unfolding digits
digits_some f v = go (ltb v 10)
  where
    go : (t : Bool) → 0 < length (cond t ((48 + v) ∷ []) (digits f (v / 10) ++ ((48 + v % 10) ∷ [])))
    go true = omega arith
    go false = rw length-append (omega arith)

pub digits_few : (f v : ℕ) → length (digits f v) ≤ f
unfolding digits
digits_few zero v = omega arith
digits_few (suc f) v = go (digits_few f (v / 10)) (ltb v 10)
  where
    go : length (digits f (v / 10)) ≤ f → (t : Bool) → length (cond t ((48 + v) ∷ []) (digits f (v / 10) ++ ((48 + v % 10) ∷ []))) ≤ suc f
    go h true = omega arith
    go h false = rw length-append (omega arith)

-- `digits` by its test
pub digits_one : (f v : ℕ) → v < 10 → digits (suc f) v ≡ (48 + v) ∷ []
unfolding digits
digits_one f v h = simp (lt-ltb v 10 h)

pub digits_more : (f v : ℕ) → 10 ≤ v → digits (suc f) v ≡ digits f (v / 10) ++ ((48 + v % 10) ∷ [])
unfolding digits
digits_more f v h = simp (le-ltb v 10 h)

-- one digit more
read_more : (limit f v : ℕ) → 10 ≤ v → v ≤ limit → number limit (digits (suc f) (v / 10)) ≡ Some (v / 10) → number limit (digits (suc (suc f)) v) ≡ Some v
unfolding more
read_more limit f v h g e =
    rw (digits_more (suc f) v h, number_append limit (digits (suc f) (v / 10)) ((48 + v % 10) ∷ []) (digits_some f (v / 10)), e, ne_eqb (v / 10) 0 (λ z. omega arith), digit_good limit (v / 10) (v % 10) (omega arith) (omega arith))
    (ap Some (omega arith))

read_one : (limit f v : ℕ) → v < 10 → v ≤ limit → number limit (digits (suc f) v) ≡ Some v
unfolding number more
read_one limit f v h g = rw (digits_one f v h, digit_good limit 0 v h (omega arith)) (ap Some (omega arith))

read_digits : (limit f v : ℕ) → v ≤ limit → v < 10 ^ suc f → number limit (digits (suc f) v) ≡ Some v
read_digits limit zero v h g = read_one limit zero v (omega (arith, g)) h
read_digits limit (suc f) v h g = go (dec_lt v 10) (read_digits limit f (v / 10))
  where
    go : Dec (v < 10) → (v / 10 ≤ limit → v / 10 < 10 ^ suc f → number limit (digits (suc f) (v / 10)) ≡ Some (v / 10)) → number limit (digits (suc (suc f)) v) ≡ Some v
    go (yes s) r = read_one limit (suc f) v s h
    go (no s) r = read_more limit f v (omega arith) h (r (omega arith) (omega (arith, rw (pow-suc 10 (suc f)) at g)))

-- reading what was written gives the number
pub read_decimal : (limit v : ℕ) → v ≤ limit → v ≤ 4294967295 → number limit (decimal v) ≡ Some v
read_decimal limit v h g = read_digits limit 9 v h (omega arith)
