-- A walk from line to line, and that it is refused exactly where the table says. Assumes nothing.
use Rattle.model.specs.declared.refusal.Refusal.{Refusal}
use Rattle.model.specs.declared.refusal.Refusal.TheVariants as why
use Rattle.std.specs.Prelude.{Ok, Err}
use Prim.Native.Nat.{ℕ, suc, ◌/◌, ◌%◌}
use mathlib.Core.Path.{◌≡◌, refl}
use mathlib.Core.List.{List, [], ◌∷◌}
use mathlib.Core.Bool.{Bool, true, false, cond}
use native.Mathlib.Omega.{arith}
use lib.ListN.{get_or}
use Rattle.sheet.specs.Numbers.{Record, said, on_record}
use Rattle.sheet.specs.Phases.{Got, got, refused}
use Rattle.sheet.specs.Table.{by_rows, arrow_says}
use Rattle.sheet.specs.Table as rule
use Rattle.sheet.specs.Records as due
use Rattle.sheet.specs.Meaning.{Situation, at_sheet, at_box, at_act, at_go, at_flow, at_view, at_end, is_arrow, rows_at, says_at, after, complete, Refused, ended, bad, good}
use Rattle.sheet.proofs.ByRows.{row_decides, decides_row, no_row, row_none}

pub data Judged : Type 0 where
  fine : Judged
  refused_at : Refusal → ℕ → Judged

-- what a line says where it is due
abbrev pub line_in : Situation → List ℕ → Record
line_in s l = by_rows (rows_at s l) (says_at s l)

unfoldable pub walk : Situation → List (List ℕ) → ℕ → Judged
walk s [] n = cond (complete s) fine (refused_at why.Ended n)
walk s (l ∷ ls) n = on_record (line_in s l) (λ a b c d. walk (after s l a b c d) ls (suc n)) (λ e. refused_at e n)

-- what is said where no row holds is a record
record Says (r : Record) : Type 0 where
  a : ℕ
  b : ℕ
  c : ℕ
  d : ℕ
  is : r ≡ said a b c d

says : (s : Situation) (l : List ℕ) → Says (says_at s l)
says at_sheet l = record { a = _; b = _; c = _; d = _; is = refl }
says (at_box z k ids) l = record { a = _; b = _; c = _; d = _; is = refl }
says (at_act z ids k) l = record { a = _; b = _; c = _; d = _; is = refl }
says (at_go z ids k) l = record { a = _; b = _; c = _; d = _; is = refl }
says (at_flow z ids) l = go (is_arrow l) (arrow_says ids l) (rule.says (due.View (get_or ids (0 / z.states) 0) (0 % z.states)) ids l) (record { a = _; b = _; c = _; d = _; is = refl }) (record { a = _; b = _; c = _; d = _; is = refl })
  where
    go : (t : Bool) (x y : Record) → Says x → Says y → Says (cond t x y)
    go true x y p q = p
    go false x y p q = q
says (at_view z ids k) l = record { a = _; b = _; c = _; d = _; is = refl }
says at_end l = record { a = _; b = _; c = _; d = _; is = refl }

pub meant : (s : Situation) (ls : List (List ℕ)) (n : ℕ) (e : Refusal) (m : ℕ) → walk s ls n ≡ refused_at e m → Refused s ls n e m
unfolding walk
meant s [] n e m h = go (complete s) refl h
  where
    go : (t : Bool) → complete s ≡ t → cond t fine (refused_at why.Ended n) ≡ refused_at e m → Refused s [] n e m
    go true q h = let z : ◌≡◌ {A = ℕ} 0 1 = cc in absurd (omega arith)
    go false q h = let u : why.Ended ≡ e = cc in let v : n ≡ m = cc in rw (← u, ← v) (ended q)
meant s (l ∷ ls) n e m h = go (λ a b c d h. meant (after s l a b c d) ls (suc n) e m h) (line_in s l) refl h
  where
    go : ((a b c d : ℕ) → walk (after s l a b c d) ls (suc n) ≡ refused_at e m → Refused (after s l a b c d) ls (suc n) e m)
        → (r : Record) → line_in s l ≡ r → on_record r (λ a b c d. walk (after s l a b c d) ls (suc n)) (λ e. refused_at e n) ≡ refused_at e m → Refused s (l ∷ ls) n e m
    go f (Ok ns) q h = let w = no_row (rows_at s l) (says_at s l) q in good ns.first ns.second ns.third ns.fourth w.0 w.1 (f ns.first ns.second ns.third ns.fourth h)
    go f (Err x) q h = let u : x ≡ e = cc in let v : n ≡ m = cc in rw (← u, ← v) (bad (row_decides (rows_at s l) (says_at s l) (says s l).is q))

pub refuses : (s : Situation) (ls : List (List ℕ)) (n : ℕ) (e : Refusal) (m : ℕ) → Refused s ls n e m → walk s ls n ≡ refused_at e m
unfolding walk
refuses s [] n e m (ended q) = rw q
refuses s (l ∷ ls) n e m (bad f) = rw (decides_row (rows_at s l) (says_at s l) f)
refuses s (l ∷ ls) n e m (good a b c d f q r) = rw (row_none (rows_at s l) (says_at s l) f, q) (refuses (after s l a b c d) ls (suc n) e m r)

-- a run of lines of one kind, walked
abbrev pub on_judged : {S : Type 0} → Got S → (S → List (List ℕ) → ℕ → Judged) → Judged
on_judged (got s ls n) f = f s ls n
on_judged (refused e n) f = refused_at e n
