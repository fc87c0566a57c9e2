-- Security, over the kind of purge.
use Rattle.std.specs.Prelude.{◌≡◌, Bool, true, List, ℕ, ◌<◌}
use Rattle.noninterference.specs.Machine.{Machine, Run, after}
use Rattle.noninterference.specs.Purge.{Policy, Kind, purge, keeps}

-- for a purge whose test for box u is `keep u`: every observer sees after every run what it sees after the run purged for its box
pub record SecureFor (M : Machine) (keep : ℕ → ℕ → List ℕ → Bool) : Type 0 where
  pub equal : (r : List ℕ) → Run M r → (o : ℕ) → o < M.observers →
      M.sees (after M r) o ≡ M.sees (after M (purge (keep (M.watcher o)) r)) o

-- Definition 2 (plain) and Definition 8 (intransitive)
abbrev pub Secure : Kind → Machine → Policy → Type 0
Secure kind M interferes = SecureFor M (keeps kind M.owner interferes)

-- Definition 1: a policy lets each box interfere with itself
abbrev pub Reflexive : Machine → Policy → Type 0
Reflexive M interferes = (u : ℕ) → u < M.boxes → interferes u u ≡ true

-- between boxes below a count: a policy that is read from a table says nothing of others
abbrev pub Transitive : ℕ → Policy → Type 0
Transitive boxes interferes =
    (u v w : ℕ) → u < boxes → v < boxes → w < boxes → interferes u v ≡ true → interferes v w ≡ true → interferes u w ≡ true
