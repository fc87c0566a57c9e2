-- A good field is the number's own decimal form, and a good record is the line of its word and numbers.
-- Assumes nothing.
use Rattle.std.specs.Prelude.{Option, Some, None}
use mathlib.Core.Path.{◌≡◌, refl, sym, ap, ap₂, ◌∙◌, subst}
use mathlib.Core.Bool.{Bool, true, false, cond, ◌||◌}
use mathlib.Core.List.{List, [], ◌∷◌, ◌++◌, append_assoc, append-nil}
use Prim.Native.Nat.{ℕ, zero, suc, ◌+◌, ◌-◌, ◌*◌, ◌/◌, ◌%◌, ◌<◌, ◌≤◌}
use native.Mathlib.Omega.{arith}
use native.Mathlib.Decide.{dec_lt}
use native.Mathlib.Nat.{le_trans}
use lib.Dec.{ltb, eqb}
use lib.ListN.{length}
use borrow.Author.Tests.{ltb-false, eqb-false}
use Rattle.text.specs.Number.{on_number, digit, more, number, digits, decimal}
use Rattle.text.proofs.Digits.{digits_one, digits_more, number_limit}

-- ---- one digit more
record Grown (v d w : ℕ) : Type 0 where
  low : 48 ≤ d
  high : d ≤ 57
  is : w ≡ v * 10 + (d - 48)

no_number : {A : Type 0} {w : ℕ} → None ≡ Some w → A
no_number h = let z : ◌≡◌ {A = ℕ} 0 1 = cc in absurd (omega arith)

grown : (limit v d w : ℕ) → digit limit v d ≡ Some w → Grown v d w
unfolding digit
grown limit v d w h = go (ltb d 48) (ltb 57 d) (ltb limit (v * 10 + (d - 48))) refl refl h
  where
    go : (s t u : Bool) → ltb d 48 ≡ s → ltb 57 d ≡ t → cond (s || t || u) None (Some (v * 10 + (d - 48))) ≡ Some w → Grown v d w
    go true t u p q h = no_number h
    go false true u p q h = no_number h
    go false false true p q h = no_number h
    go false false false p q h = record { low = ltb-false d 48 p; high = ltb-false 57 d q; is = let z : v * 10 + (d - 48) ≡ w = cc in sym z }

digits_grown : (k v d w : ℕ) → 0 < v → Grown v d w → digits (suc k) w ≡ digits k v ++ (d ∷ [])
digits_grown k v d w p g =
    let l = g.low in let h = g.high in let e = g.is in
    let a : w / 10 ≡ v = omega arith in
    let b : 48 + w % 10 ≡ d = omega arith in
    digits_more k w (omega arith) ∙ ap (λ n. digits k n ++ ((48 + w % 10) ∷ [])) a ∙ ap (λ n. digits k v ++ (n ∷ [])) b

-- what `more` reads goes behind what was read
record Read (limit d u : ℕ) (ds : List ℕ) (w : ℕ) : Type 0 where
  value : ℕ
  some : 0 < u
  one : Grown u d value
  rest : more limit ds value ≡ Some w

one_more : (limit d u w : ℕ) (ds : List ℕ) → more limit (d ∷ ds) u ≡ Some w → Read limit d u ds w
unfolding more
one_more limit d u w ds h = go (eqb u 0) refl (digit limit u d) refl h
  where
    go : (t : Bool) → eqb u 0 ≡ t → (n : Option ℕ) → digit limit u d ≡ n → cond t None (on_number n (more limit ds) None) ≡ Some w → Read limit d u ds w
    go true p n q h = no_number h
    go false p (Some v) q h = record { value = v; some = let k = eqb-false u 0 p in omega arith; one = grown limit u d v q; rest = h }
    go false p None q h = no_number h

grown_some : (u d v : ℕ) → 0 < u → Grown u d v → 0 < v
grown_some u d v p g = let e = g.is in omega arith

more_digits : (limit k u w : ℕ) (ds : List ℕ) → more limit ds u ≡ Some w → digits (length ds + k) w ≡ digits k u ++ ds
unfolding more
more_digits limit k u w [] h =
    let z : u ≡ w = cc in
    let e : 0 + k ≡ k = omega arith in
    ap (λ n. digits n w) e ∙ ap (digits k) (sym z) ∙ sym (append-nil (digits k u))
more_digits limit k u w (d ∷ ds) h =
    let r = one_more limit d u w ds h in
    let e : suc (length ds) + k ≡ length ds + suc k = omega arith in
    ap (λ n. digits n w) e ∙ more_digits limit (suc k) r.value w ds r.rest
    ∙ ap (λ xs. xs ++ ds) (digits_grown k u d r.value r.some r.one) ∙ append_assoc (digits k u) (d ∷ []) ds

-- ---- a number up to 4,294,967,295 has at most ten digits
scaled : ℕ → ℕ → ℕ
scaled zero u = u
scaled (suc n) u = scaled n (u * 10)

scaled_up : (n u v : ℕ) → u ≤ v → scaled n u ≤ scaled n v
unfolding scaled
scaled_up zero u v l = l
scaled_up (suc n) u v l = scaled_up n (u * 10) (v * 10) (omega arith)

more_least : (limit n u w : ℕ) (ds : List ℕ) → n ≤ length ds → more limit ds u ≡ Some w → scaled n u ≤ w
unfolding scaled more
more_least limit zero u w [] l h = let z : u ≡ w = cc in omega arith
more_least limit zero u w (d ∷ ds) l h =
    let r = one_more limit d u w ds h in
    let e = r.one.is in
    let i : r.value ≤ w = more_least limit zero r.value w ds (omega arith) r.rest in
    omega arith
more_least limit (suc n) u w [] l h = absurd (omega arith)
more_least limit (suc n) u w (d ∷ ds) l h =
    let r = one_more limit d u w ds h in
    let e = r.one.is in
    let i : scaled n r.value ≤ w = more_least limit n r.value w ds (omega arith) r.rest in
    le_trans (scaled_up n (u * 10) r.value (omega arith)) i

ten_digits : (limit u w : ℕ) (ds : List ℕ) → 0 < u → w ≤ 4294967295 → more limit ds u ≡ Some w → length ds ≤ 9
unfolding scaled
ten_digits limit u w ds p l h = go (dec_lt 9 (length ds))
  where
    go : Dec (9 < length ds) → length ds ≤ 9
    go (no n) = omega arith
    go (yes m) =
        let a : scaled 10 u ≤ w = more_least limit 10 u w ds m h in
        let b : scaled 10 1 ≤ scaled 10 u = scaled_up 10 1 u p in
        absurd (omega arith)

-- ---- a good field
zero_alone : (limit w : ℕ) (ds : List ℕ) → more limit ds 0 ≡ Some w → (ds ≡ []) × (w ≡ 0)
unfolding more
zero_alone limit w [] h = (refl, let z : 0 ≡ w = cc in sym z)
zero_alone limit w (d ∷ ds) h = let r = (one_more limit d 0 w ds h).some in absurd (omega arith)

pub number_is : (limit w : ℕ) (f : List ℕ) → limit ≤ 4294967295 → number limit f ≡ Some w → f ≡ decimal w
unfolding number
number_is limit w [] m h = no_number h
number_is limit w (d ∷ ds) m h = go (digit limit 0 d) refl h
  where
    some : (u : ℕ) → Grown 0 d u → more limit ds u ≡ Some w → Dec (0 < u) → w ≤ limit → ◌≡◌ {A = List ℕ} (d ∷ ds) (decimal w)
    some u g h (yes p) l =
        let k = ten_digits limit u w ds p (omega arith) h in
        let e : length ds + suc (9 - length ds) ≡ 10 = omega arith in
        let a = g.low in let b = g.high in let c = g.is in
        let v : 48 + u ≡ d = omega arith in
        sym (ap (λ n. digits n w) (sym e) ∙ more_digits limit (suc (9 - length ds)) u w ds h
        ∙ ap (λ xs. xs ++ ds) (digits_one (9 - length ds) u (omega arith)) ∙ ap (λ n. n ∷ ds) v)
    some u g h (no p) l =
        let c = g.is in let a = g.low in
        let z : u ≡ 0 = omega arith in
        let q = zero_alone limit w ds (subst (λ n. more limit ds n ≡ Some w) z h) in
        let v : d ≡ 48 + w = let y = q.1 in omega arith in
        let y = q.1 in
        ap₂ (λ n xs. n ∷ xs) v q.0 ∙ sym (digits_one 9 w (omega arith))

    go : (n : Option ℕ) → digit limit 0 d ≡ n → on_number n (more limit ds) None ≡ Some w → ◌≡◌ {A = List ℕ} (d ∷ ds) (decimal w)
    go (Some u) q e = some u (grown limit 0 d u q) e (dec_lt 0 u) (number_limit limit (d ∷ ds) w h)
    go None q e = no_number e
