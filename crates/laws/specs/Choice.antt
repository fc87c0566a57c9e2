-- Tests joined, and answers chosen by a test. They stay shut until a proof unfolds them, so that a proof can read their parts off a goal.
use Rattle.std.specs.Prelude.{Bool, true, false}
use Rattle.std.proofs.Math.Option.{Option, none, some}

unfoldable pub both : Bool → Bool → Bool
both true b = b
both false b = false

unfoldable pub either : Bool → Bool → Bool
either true b = true
either false b = b

-- the first test brings the second
unfoldable pub brings : Bool → Bool → Bool
brings true b = b
brings false b = true

-- the first test holds and the second does not
unfoldable pub without : Bool → Bool → Bool
without true true = false
without true false = true
without false b = false

unfoldable pub choose : {A : Type 0} → Bool → A → A → A
choose true x y = x
choose false x y = y

-- an answer that counts only where a test holds
unfoldable pub when : {A : Type 0} → Bool → Option A → Option A
when true x = x
when false x = none

-- the first answer, and the second where there is none
unfoldable pub or_else : {A : Type 0} → Option A → Option A → Option A
or_else none y = y
or_else (some x) y = some x
