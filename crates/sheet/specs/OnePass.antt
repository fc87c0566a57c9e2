-- What reading in one pass promises: where it answers, the exact way would answer the same.
use Rattle.std.specs.Prelude.{ℕ, ◌+◌, ◌<◌, ◌≡◌, List, ◌∷◌, ◌++◌, Bool, true, false, length, drop, Result, Ok, Option, Some, None}
use Rattle.model.specs.Limits.{LARGEST_ID}
use Rattle.text.specs.Number.{number, more}
use Rattle.sheet.specs.declared.Digits.{Digits}
use Rattle.sheet.specs.declared.Taken.{Taken}
use Rattle.model.specs.declared.refusal.Refused.{Refused}
use Rattle.sheet.specs.Records.{position}

-- the bytes stand at a place of a text, with the byte `stop` behind them
pub record Standing (t : List ℕ) (stop at : ℕ) (bytes : List ℕ) (next : ℕ) : Type 0 where
  pub here : drop at t ≡ bytes ++ (stop ∷ drop next t)
  pub next_is : next ≡ at + length bytes + 1

-- bytes that stand there say a number
pub record NumberAt (limit : ℕ) (t : List ℕ) (stop at v next : ℕ) : Type 0 where
  pub bytes : List ℕ
  pub standing : Standing t stop at bytes next
  pub says : number limit bytes ≡ Some v

-- the same after the value v
pub record MoreAt (limit : ℕ) (t : List ℕ) (stop at v w next : ℕ) : Type 0 where
  pub bytes : List ℕ
  pub standing : Standing t stop at bytes next
  pub says : more limit bytes v ≡ Some w

abbrev pub NumberRead : ℕ → List ℕ → ℕ → ℕ → Option Digits → Type 0
NumberRead limit t stop at (Some d) = NumberAt limit t stop at d.value d.next
NumberRead limit t stop at None = Unit {0}

abbrev pub MoreRead : ℕ → List ℕ → ℕ → ℕ → ℕ → Option Digits → Type 0
MoreRead limit t stop at v (Some d) = MoreAt limit t stop at v d.value d.next
MoreRead limit t stop at v None = Unit {0}

-- the word and a tab stand there
abbrev pub Begins : List ℕ → ℕ → List ℕ → Bool → Type 0
Begins t at word true = Standing t 9 at word (at + length word + 1)
Begins t at word false = Unit {0}

-- a line that was taken is the one that the exact way takes, whatever its number
abbrev pub Quickly : {T : Type 0} → (ℕ → Result (Taken T) Refused) → Option (Taken T) → Type 0
Quickly f (Some x) = (n : ℕ) → f n ≡ Ok x
Quickly f None = Unit {0}

-- two ids stand at a place, the last up to LF, and name boxes at positions v and u
pub record ArrowAt (ids t : List ℕ) (at v u next : ℕ) : Type 0 where
  pub from : ℕ
  pub to : ℕ
  pub middle : ℕ
  pub first : NumberAt LARGEST_ID t 9 at from middle
  pub second : NumberAt LARGEST_ID t 10 middle to next
  pub from_is : v ≡ position ids from
  pub to_is : u ≡ position ids to
  pub from_known : v < length ids
  pub to_known : u < length ids

abbrev pub ArrowRead : List ℕ → List ℕ → ℕ → Option (ℕ × ℕ × ℕ) → Type 0
ArrowRead ids t at (Some x) = ArrowAt ids t at x.0 x.1 x.2
ArrowRead ids t at None = Unit {0}
