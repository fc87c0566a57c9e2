-- A run of lines of one kind is read exactly where it was printed from items that keep to the rules.
-- Assumes nothing.
use Rattle.std.specs.Prelude.{Ok, Err}
use Rattle.model.specs.declared.refusal.Refusal.{Refusal}
use mathlib.Core.Path.{◌≡◌, refl, ap, ap₂}
use mathlib.Core.List.{List, [], ◌∷◌, ◌++◌}
use Prim.Native.Nat.{ℕ, zero, suc}
use native.Mathlib.Omega.{arith}
use lib.ListN.{length}
use Rattle.sheet.specs.Numbers.{Record, said, on_record}
use Rattle.sheet.specs.Phases.{Got, got, refused, phase}
use Rattle.demands.specs.Printed.{Row, rows_from}
use Rattle.demands.proofs.Rows.{glue}

-- the lines of rows
unfoldable pub glues : List Row → List (List ℕ)
glues [] = []
glues (r ∷ rs) = glue r ∷ glues rs

pub glues_append : (rs qs : List Row) → glues (rs ++ qs) ≡ glues rs ++ glues qs
unfolding glues
glues_append [] qs = refl
glues_append (r ∷ rs) qs = ap (λ ls. glue r ∷ ls) (glues_append rs qs)

pub no_got : {A S : Type 0} {e : Refusal} {n : ℕ} {s : S} {ls : List (List ℕ)} {m : ℕ} → ◌≡◌ {A = Got S} (refused e n) (got s ls m) → A
no_got h = let z : ◌≡◌ {A = ℕ} 0 1 = cc in absurd (omega arith)

-- a phase: its lines and what it stores; the row of item k, what the item makes of the state, and the rules
module _ {S A : Type 0} (line : ℕ → S → List ℕ → Record) (store : ℕ → S → ℕ → ℕ → ℕ → ℕ → S)
    (row : ℕ → A → Row) (next : ℕ → S → A → S) (P : ℕ → S → A → Type 0) where
  abbrev pub Follow : ℕ → S → List A → Type 0
  Follow k s [] = Unit {0}
  Follow k s (x ∷ xs) = P k s x × Follow (suc k) (next k s x) xs

  unfoldable pub nexts : ℕ → S → List A → S
  nexts k s [] = s
  nexts k s (x ∷ xs) = nexts (suc k) (next k s x) xs

  pub record Printed (k : ℕ) (s : S) (x : A) : Type 0 where
    pub a : ℕ
    pub b : ℕ
    pub c : ℕ
    pub d : ℕ
    pub says : line k s (glue (row k x)) ≡ said a b c d
    pub stored : store k s a b c d ≡ next k s x

  pub phase_print : ((k : ℕ) (s : S) (x : A) → P k s x → Printed k s x) → (xs : List A) (k : ℕ) (s : S) (ls : List (List ℕ)) (n : ℕ) → Follow k s xs →
      (m : ℕ) × (phase line store (length xs) k s (glues (rows_from row k xs) ++ ls) n ≡ got (nexts k s xs) ls m)
  unfolding phase glues rows_from nexts
  phase_print f [] k s ls n h = (n, refl)
  phase_print f (x ∷ xs) k s ls n h =
      let p = f k s x h.0 in
      let i = phase_print f xs (suc k) (next k s x) ls (suc n) h.1 in
      (i.0, rw (p.says, p.stored) i.1)

  pub record Item (k : ℕ) (s : S) (l : List ℕ) (a b c d : ℕ) : Type 0 where
    pub x : A
    pub is : l ≡ glue (row k x)
    pub good : P k s x
    pub stored : store k s a b c d ≡ next k s x

  pub record Taken (left k : ℕ) (s : S) (ls ls' : List (List ℕ)) (s' : S) : Type 0 where
    pub items : List A
    pub many : length items ≡ left
    pub lines_are : ls ≡ glues (rows_from row k items) ++ ls'
    pub follow : Follow k s items
    pub ends : s' ≡ nexts k s items

  pub phase_back : ((k : ℕ) (s : S) (l : List ℕ) (a b c d : ℕ) → line k s l ≡ said a b c d → Item k s l a b c d) →
      (left k : ℕ) (s : S) (ls : List (List ℕ)) (n : ℕ) {s' : S} {ls' : List (List ℕ)} {n' : ℕ} → phase line store left k s ls n ≡ got s' ls' n' → Taken left k s ls ls' s'
  unfolding phase glues rows_from nexts
  phase_back f zero k s ls n h = record { items = []; many = refl; lines_are = cc; follow = tt; ends = cc }
  phase_back f (suc left) k s [] n h = no_got h
  phase_back f (suc left) k s (l ∷ ls) n {s'} {ls'} {n'} h = go (line k s l) refl (λ t h. phase_back f left (suc k) t ls (suc n) h) h
    where
      go : (r : Record) → line k s l ≡ r → ((t : S) → phase line store left (suc k) t ls (suc n) ≡ got s' ls' n' → Taken left (suc k) t ls ls' s') →
          on_record r (λ a b c d. phase line store left (suc k) (store k s a b c d) ls (suc n)) (λ e. refused e n) ≡ got s' ls' n' → Taken (suc left) k s (l ∷ ls) ls' s'
      go (Err e) q back h = no_got h
      go (Ok ns) q back h =
          let i = f k s l ns.first ns.second ns.third ns.fourth q in
          let t = back (next k s i.x) (rw (← i.stored) h) in
          record {
            items = i.x ∷ t.items;
            many = ap suc t.many;
            lines_are = ap₂ (λ y ys. y ∷ ys) i.is t.lines_are;
            follow = (i.good, t.follow);
            ends = t.ends;
          }
