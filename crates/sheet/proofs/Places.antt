-- The lines of a text that ends in LF, by the places where they start. Assumes nothing.
use Prim.Native.Nat.{ℕ, zero, suc, ◌+◌, ◌<◌}
use mathlib.Core.Path.{◌≡◌, refl, sym, ap, ◌∙◌}
use mathlib.Core.List.{List, [], ◌∷◌}
use native.Mathlib.Omega.{arith}
use native.Mathlib.Decide.{dec_lt}
use lib.ListN.{length, get_or, drop, length-drop}
use lib.Seq.{drop-cons}
use Rattle.text.specs.Lines.{lines, end_of, line_at, Ended}
use Rattle.text.proofs.Parts.{line_next, no_lines}
use Rattle.sheet.specs.Label.{line_start}

-- line i stands where it starts
pub record Placed (t : List ℕ) (i : ℕ) : Type 0 where
  pub within : line_start i t < length t
  pub rest : lines (drop (line_start i t) t) ≡ drop i (lines t)

-- a place from which lines go on is within the text
some_left : (t : List ℕ) (at i : ℕ) → lines (drop at t) ≡ drop i (lines t) → i < length (lines t) → at < length t
some_left t at i e h = go (dec_lt at (length t))
  where
    go : Dec (at < length t) → at < length t
    go (yes g) = g
    go (no g) =
        let z : length (drop i (lines t)) ≡ 0 = ap length (sym e ∙ no_lines t at (omega arith)) in
        absurd (omega (arith, length-drop i (lines t), z))

module _ {t : List ℕ} (q : Ended t) where
  -- the line at a place, and those after it
  step : (at i : ℕ) → at < length t → i < length (lines t) → lines (drop at t) ≡ drop i (lines t) → line_at t at ∷ lines (drop (end_of 10 t at + 1) t) ≡ get_or (lines t) i [] ∷ drop (suc i) (lines t)
  step at i g h e = sym (line_next q at g) ∙ e ∙ drop-cons (lines t) i [] h

  pub placed : (i : ℕ) → i < length (lines t) → Placed t i
  unfolding line_start
  placed zero h = record { within = some_left t 0 0 refl h; rest = refl }
  placed (suc i) h = go (placed i (omega arith))
    where
      go : Placed t i → Placed t (suc i)
      go p =
          let s = step (line_start i t) i p.within (omega arith) p.rest in
          let e : lines (drop (end_of 10 t (line_start i t) + 1) t) ≡ drop (suc i) (lines t) = cc in
          record { within = some_left t (end_of 10 t (line_start i t) + 1) (suc i) e h; rest = e }

  pub line_there : (i : ℕ) → i < length (lines t) → line_at t (line_start i t) ≡ get_or (lines t) i []
  line_there i h =
      let s = step (line_start i t) i (placed i h).within h (placed i h).rest in
      cc
