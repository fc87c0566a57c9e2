-- A fact of an answer that a test chooses.
-- Assumes nothing.
use mathlib.Core.Path.{◌≡◌, refl}
use mathlib.Core.Bool.{Bool, true, false}
use Rattle.laws.specs.Choice.{choose}

pub chosen : {A : Type 0} (P : A → Type 0) (t : Bool) (x y : A) → (t ≡ true → P x) → (t ≡ false → P y) → P (choose t x y)
unfolding choose
chosen P true x y f g = f refl
chosen P false x y f g = g refl
