-- A text that ends in LF is its lines, each with its LF; a printed text has the printed lines.
-- Assumes nothing.
use mathlib.Core.Path.{◌≡◌, refl, sym, ap, ap₂, ◌∙◌}
use mathlib.Core.Bool.{Bool, true, false, cond}
use mathlib.Core.List.{List, [], ◌∷◌, ◌++◌, append_assoc}
use Prim.Native.Nat.{ℕ, suc, ◌-◌, ◌<◌}
use native.Mathlib.Omega.{arith}
use lib.Dec.{eqb}
use lib.ListN.{length, get_or, length-append}
use borrow.Author.Tests.{eqb-true, eqb-false}
use Rattle.text.specs.Lines.{onto, lines}
use Rattle.zarpalume.specs.Lines.{line}
use Rattle.demands.specs.Printed.{Row, text}
use Rattle.demands.proofs.Rows.{PlainRows, glue, line_next}
use Rattle.demands.proofs.Phases.{glues}

unfoldable pub unlines : List (List ℕ) → List ℕ
unlines [] = []
unlines (l ∷ ls) = l ++ (10 ∷ unlines ls)

-- ---- a printed text
line_glue : (r : Row) → line r ≡ glue r ++ (10 ∷ [])
unfolding line glue
line_glue [] = refl
line_glue (f ∷ []) = refl
line_glue (f ∷ g ∷ fs) = ap (λ t. f ++ (9 ∷ t)) (line_glue (g ∷ fs)) ∙ sym (append_assoc f (9 ∷ glue (g ∷ fs)) (10 ∷ []))

pub text_unlines : (rs : List Row) → text rs ≡ unlines (glues rs)
unfolding text unlines glues
text_unlines [] = refl
text_unlines (r ∷ rs) =
    ap (λ l. l ++ text rs) (line_glue r) ∙ append_assoc (glue r) (10 ∷ []) (text rs) ∙ ap (λ t. glue r ++ (10 ∷ t)) (text_unlines rs)

pub printed_lines : (rs : List Row) → PlainRows rs → lines (text rs) ≡ glues rs
unfolding text glues lines
printed_lines [] p = refl
printed_lines (r ∷ rs) p = line_next r (text rs) p.0 ∙ ap (λ ls. glue r ∷ ls) (printed_lines rs p.1)

-- its last byte is LF
last_after : (xs : List ℕ) (y : ℕ) (ys : List ℕ) → get_or (xs ++ (y ∷ ys)) (length (xs ++ (y ∷ ys)) - 1) 0 ≡ get_or (y ∷ ys) (length (y ∷ ys) - 1) 0
last_after [] y ys = refl
last_after (x ∷ []) y ys = let e : suc (suc (length ys)) - 1 ≡ suc (suc (length ys) - 1) = omega arith in ap (λ n. get_or (x ∷ y ∷ ys) n 0) e
last_after (x ∷ z ∷ zs) y ys =
    let e : suc (suc (length (zs ++ (y ∷ ys)))) - 1 ≡ suc (suc (length (zs ++ (y ∷ ys))) - 1) = omega arith in
    ap (λ n. get_or (x ∷ z ∷ (zs ++ (y ∷ ys))) n 0) e ∙ last_after (z ∷ zs) y ys

last_cons : (x : ℕ) (t : List ℕ) → 0 < length t → get_or (x ∷ t) (suc (length t) - 1) 0 ≡ get_or t (length t - 1) 0
last_cons x t p = let e : suc (length t) - 1 ≡ suc (length t - 1) = omega arith in ap (λ n. get_or (x ∷ t) n 0) e

pub unlines_some : (l : List ℕ) (ls : List (List ℕ)) → 0 < length (unlines (l ∷ ls))
unfolding unlines
unlines_some l ls = let e = length-append l (10 ∷ unlines ls) in omega arith

pub unlines_last : (l : List ℕ) (ls : List (List ℕ)) → get_or (unlines (l ∷ ls)) (length (unlines (l ∷ ls)) - 1) 0 ≡ 10
unfolding unlines
unlines_last l [] = last_after l 10 []
unlines_last l (m ∷ ms) =
    last_after l 10 (m ++ (10 ∷ unlines ms)) ∙ last_cons 10 (m ++ (10 ∷ unlines ms)) (unlines_some m ms) ∙ unlines_last m ms

-- ---- a text that ends in LF
abbrev Closes : List ℕ → Type 0
Closes [] = Unit {0}
Closes (x ∷ []) = x ≡ 10
Closes (x ∷ y ∷ ys) = Closes (y ∷ ys)

closes_of : (t : List ℕ) → get_or t (length t - 1) 0 ≡ 10 → Closes t
closes_of [] h = tt
closes_of (x ∷ []) h = h
closes_of (x ∷ y ∷ ys) h =
    let e : suc (suc (length ys)) - 1 ≡ suc (suc (length ys) - 1) = omega arith in
    closes_of (y ∷ ys) (sym (ap (λ n. get_or (x ∷ y ∷ ys) n 0) e) ∙ h)

closes_tail : (x : ℕ) (xs : List ℕ) → Closes (x ∷ xs) → Closes xs
closes_tail x [] h = tt
closes_tail x (y ∷ ys) h = h

onto_unlines : (x : ℕ) (ls : List (List ℕ)) → (ls ≡ [] → ⊥) → unlines (onto x ls) ≡ x ∷ unlines ls
unfolding onto unlines
onto_unlines x [] n = absurd (n refl)
onto_unlines x (l ∷ ls) n = refl

lines_some : (y : ℕ) (ys : List ℕ) → lines (y ∷ ys) ≡ [] → ⊥
unfolding lines onto
lines_some y ys e = go (eqb y 10) (lines ys) e
  where
    go : (t : Bool) (ls : List (List ℕ)) → cond t ([] ∷ ls) (onto y ls) ≡ [] → ⊥
    go true ls e = let z : ◌≡◌ {A = ℕ} 0 1 = cc in omega arith
    go false [] e = let z : ◌≡◌ {A = ℕ} 0 1 = cc in omega arith
    go false (l ∷ ls) e = let z : ◌≡◌ {A = ℕ} 0 1 = cc in omega arith

closed_lines : (t : List ℕ) → Closes t → unlines (lines t) ≡ t
unfolding lines unlines
closed_lines [] h = refl
closed_lines (x ∷ xs) h = go (eqb x 10) refl xs (closes_tail x xs h) (closed_lines xs) h
  where
    go : (t : Bool) → eqb x 10 ≡ t → (xs : List ℕ) → Closes xs → (Closes xs → unlines (lines xs) ≡ xs) → Closes (x ∷ xs) →
        unlines (cond t ([] ∷ lines xs) (onto x (lines xs))) ≡ x ∷ xs
    go true q xs c f h = ap₂ (λ y ys. y ∷ ys) (sym (eqb-true x 10 q)) (f c)
    go false q [] c f h = absurd (eqb-false x 10 q h)
    go false q (y ∷ ys) c f h = onto_unlines x (lines (y ∷ ys)) (lines_some y ys) ∙ ap (λ zs. x ∷ zs) (f c)

pub ended_lines : (t : List ℕ) → get_or t (length t - 1) 0 ≡ 10 → unlines (lines t) ≡ t
ended_lines t h = closed_lines t (closes_of t h)
