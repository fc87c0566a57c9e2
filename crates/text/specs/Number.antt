-- Numbers in decimal: what a field of digits says, and how a number is written.
use Rattle.std.specs.Prelude.{ℕ, zero, suc, ◌+◌, ◌-◌, ◌*◌, ◌/◌, ◌%◌, cond, ◌||◌, List, [], ◌∷◌, ◌++◌, ◌==◌, nat_lt, Option, Some, None}

-- what becomes of a number, if it is one
abbrev pub on_number : {A : Type 0} → Option ℕ → (ℕ → A) → A → A
on_number (Some n) f z = f n
on_number None f z = z

-- the value v with the digit d after it, up to a limit
unfoldable pub digit : ℕ → ℕ → ℕ → Option ℕ
digit limit v d =
    cond (nat_lt d 48 || nat_lt 57 d || nat_lt limit (v * 10 + (d - 48))) None (Some (v * 10 + (d - 48)))

-- the digits that follow the value v: none may follow a leading zero
unfoldable pub more : ℕ → List ℕ → ℕ → Option ℕ
more limit [] v = Some v
more limit (d ∷ ds) v = cond (v == 0) None (on_number (digit limit v d) (more limit ds) None)

-- the number that the bytes write in decimal: no sign, no leading zero but in 0 itself, at most the limit
unfoldable pub number : ℕ → List ℕ → Option ℕ
number limit [] = None
number limit (d ∷ ds) = on_number (digit limit 0 d) (more limit ds) None

-- v in decimal, with at most so many digits
unfoldable pub digits : ℕ → ℕ → List ℕ
digits zero v = []
digits (suc most) v = cond (nat_lt v 10) ((48 + v) ∷ []) (digits most (v / 10) ++ ((48 + v % 10) ∷ []))

-- the largest number that fits 32 bits has 10 digits
abbrev pub decimal : ℕ → List ℕ
decimal v = digits 10 v
