-- What stands in a text that is not refused. Assumes nothing.
use Rattle.model.specs.declared.refusal.Refusal.{Refusal}
use Rattle.model.specs.declared.refusal.Refusal.TheVariants as why
use Rattle.std.specs.Prelude.{Ok, Err}
use Prim.Native.Nat.{ℕ, zero, suc, ◌+◌, ◌-◌, ◌<◌}
use mathlib.Core.Path.{◌≡◌, refl}
use mathlib.Core.List.{List, [], ◌∷◌}
use mathlib.Core.Bool.{Bool, true, false, cond, ◌&&◌}
use native.Mathlib.Omega.{arith}
use borrow.Author.Tests.{eqb-true}
use lib.ListN.{length, get_or}
use lib.Dec.{eqb}
use Rattle.model.specs.Made.{sizes_from}
use Rattle.model.specs.declared.Sizes.{Sizes}
use Rattle.model.specs.Limits.{NEXT_ENTRIES, OUTPUT_ENTRIES, VIEW_ENTRIES, SHEET_BYTES}
use Rattle.text.specs.Lines.{lines, Ended}
use Rattle.sheet.specs.Numbers.{Record, said, on_record}
use Rattle.sheet.specs.Records.{sized, sheet_line}
use Rattle.sheet.specs.Phases.{Got, got, refused, phase, steps}
use Rattle.sheet.specs.Reading.{zeros, on_got, Parts, parts, model, refusal, finish, sheet_lines, sheet_text}

-- a refused run gives nothing
pub no_got : {A S : Type 0} {e : Refusal} {n : ℕ} {s : S} {ls : List (List ℕ)} {m : ℕ} → refused e n ≡ got s ls m → A
no_got {A} {S} {e} {n} {s} {ls} {m} h = let z : ◌≡◌ {A = ℕ} 0 1 = cc in absurd (omega arith)

no_model : {A : Type 0} {e : Refusal} {n : ℕ} {z : Sizes} {p : Parts} → refusal e n ≡ model z p → A
no_model h = let d : ◌≡◌ {A = ℕ} 0 1 = cc in absurd (omega arith)

-- of two runs, one after the other, both were good
pub record Then {S T : Type 0} (g : Got S) (f : S → List (List ℕ) → ℕ → Got T) (x : T) (ls : List (List ℕ)) (n : ℕ) : Type 0 where
  pub what : S
  pub left : List (List ℕ)
  pub number : ℕ
  pub is : g ≡ got what left number
  pub then : f what left number ≡ got x ls n

pub first_of_lem : {S T : Type 0} (g : Got S) {f : S → List (List ℕ) → ℕ → Got T} {x : T} {ls : List (List ℕ)} {n : ℕ} → on_got g f ≡ got x ls n → Then g f x ls n
first_of_lem (got s ls n) h = record { what = s; left = ls; number = n; is = refl; then = h }
first_of_lem (refused e n) h = no_got h

-- each line of a good run is good
pub record Each {S : Type 0} (line : ℕ → S → List ℕ → Record) (k : ℕ) (l : List ℕ) : Type 0 where
  pub before : S
  pub a : ℕ
  pub b : ℕ
  pub c : ℕ
  pub d : ℕ
  pub is : line k before l ≡ said a b c d

module _ {S : Type 0} (line : ℕ → S → List ℕ → Record) (store : ℕ → S → ℕ → ℕ → ℕ → ℕ → S) where
  pub each_line : (left k : ℕ) (s : S) (ls : List (List ℕ)) (n : ℕ) {s' : S} {ls' : List (List ℕ)} {n' : ℕ}
      → phase line store left k s ls n ≡ got s' ls' n' → (j : ℕ) → j < left → Each line (k + j) (get_or ls j []) × (j < length ls)
  unfolding phase
  each_line zero k s ls n h j g = absurd (omega arith)
  each_line (suc left) k s [] n h j g = no_got h
  each_line (suc left) k s (l ∷ ls) n {s'} {ls'} {n'} h j g = go (λ s h j g. each_line left (suc k) s ls (suc n) h j g) (line k s l) refl h j g
    where
      go : ((s : S) → phase line store left (suc k) s ls (suc n) ≡ got s' ls' n' → (j : ℕ) → j < left → Each line (suc k + j) (get_or ls j []) × (j < length ls))
          → (r : Record) → line k s l ≡ r
          → on_record r (λ a b c d. phase line store left (suc k) (store k s a b c d) ls (suc n)) (λ e. refused e n) ≡ got s' ls' n'
          → (j : ℕ) → j < suc left → Each line (k + j) (get_or (l ∷ ls) j []) × (j < suc (length ls))
      go f (Err e) q h j g = no_got h
      go f (Ok ns) q h zero g =
          let z : k + 0 ≡ k = omega arith in
          (rw z (record { before = s; a = ns.first; b = ns.second; c = ns.third; d = ns.fourth; is = q }), omega arith)
      go f (Ok ns) q h (suc j) g =
          let z : k + suc j ≡ suc k + j = omega arith in
          let w = f (store k s ns.first ns.second ns.third ns.fourth) h j (omega arith) in
          (rw z w.0, omega (arith, w.1))

  -- what each line keeps, the whole run keeps
  pub kept : (P : ℕ → S → Type 0) (top : ℕ) → ((k : ℕ) (s : S) (l : List ℕ) (a b c d : ℕ) → k < top → P k s → line k s l ≡ said a b c d → P (suc k) (store k s a b c d))
      → (left k : ℕ) (s : S) (ls : List (List ℕ)) (n : ℕ) {s' : S} {ls' : List (List ℕ)} {n' : ℕ} → k + left ≡ top → P k s → phase line store left k s ls n ≡ got s' ls' n' → P top s'
  unfolding phase
  kept P top keep zero k s ls n {s'} u p h =
      let z : top ≡ k = omega arith in
      let e : s ≡ s' = cc in
      rw (z, ← e) p
  kept P top keep (suc left) k s [] n u p h = no_got h
  kept P top keep (suc left) k s (l ∷ ls) n {s'} {ls'} {n'} u p h = go (λ s p h. kept P top keep left (suc k) s ls (suc n) (omega arith) p h) (line k s l) refl h
    where
      go : ((s : S) → P (suc k) s → phase line store left (suc k) s ls (suc n) ≡ got s' ls' n' → P top s')
          → (r : Record) → line k s l ≡ r
          → on_record r (λ a b c d. phase line store left (suc k) (store k s a b c d) ls (suc n)) (λ e. refused e n) ≡ got s' ls' n'
          → P top s'
      go f (Err e) q h = no_got h
      go f (Ok ns) q h = f (store k s ns.first ns.second ns.third ns.fourth) (keep k s l ns.first ns.second ns.third ns.fourth (omega arith) p q) h

-- a text that is not refused: its lines, and what they say
pub record Inside (t : List ℕ) (z : Sizes) (p : Parts) : Type 0 where
  pub closed : Ended t
  pub first : List ℕ
  pub others : List (List ℕ)
  pub lines_are : lines t ≡ first ∷ others
  pub sizes : sheet_line first ≡ said z.states z.actions z.boxes z.start
  pub number : ℕ
  pub body : parts z.states z.actions z.boxes (steps (zeros NEXT_ENTRIES) (zeros OUTPUT_ENTRIES)) (zeros VIEW_ENTRIES) others 2 ≡ got p [] number

pub inside : (t : List ℕ) {z : Sizes} {p : Parts} → sheet_text t ≡ model z p → Inside t z p
unfolding sheet_text sheet_lines
inside t {z} {p} h = go (sized SHEET_BYTES (length t)) (eqb (get_or t (length t - 1) 0) 10) refl (lines t) refl h
  where
    ends : (l : List ℕ) (ls : List (List ℕ)) (a b c d : ℕ) → sheet_line l ≡ said a b c d → lines t ≡ l ∷ ls → Ended t
        → (g : Got Parts) → parts a b c (steps (zeros NEXT_ENTRIES) (zeros OUTPUT_ENTRIES)) (zeros VIEW_ENTRIES) ls 2 ≡ g → finish g (model (sizes_from a b c d)) ≡ model z p → Inside t z p
    ends l ls a b c d q e k (got x [] n) w h = record {
      closed = k;
      first = l;
      others = ls;
      lines_are = e;
      sizes = (let u : sizes_from a b c d ≡ z = cc in rw (← u) q);
      number = n;
      body =
          (let u : sizes_from a b c d ≡ z = cc in let v : x ≡ p = cc in rw (← u, ← v) w);
    }
    ends l ls a b c d q e k (got x (m ∷ ms) n) w h = no_model h
    ends l ls a b c d q e k (refused x n) w h = no_model h

    line : (l : List ℕ) (ls : List (List ℕ)) → lines t ≡ l ∷ ls → Ended t → (r : Record) → sheet_line l ≡ r
        → on_record r (λ a b c d. finish (parts a b c (steps (zeros NEXT_ENTRIES) (zeros OUTPUT_ENTRIES)) (zeros VIEW_ENTRIES) ls 2) (model (sizes_from a b c d))) (λ e. refusal e 1) ≡ model z p → Inside t z p
    line l ls e k (Ok ns) q h = ends l ls ns.first ns.second ns.third ns.fourth q e k (parts ns.first ns.second ns.third (steps (zeros NEXT_ENTRIES) (zeros OUTPUT_ENTRIES)) (zeros VIEW_ENTRIES) ls 2) refl h
    line l ls e k (Err x) q h = no_model h

    go : (u w : Bool) → eqb (get_or t (length t - 1) 0) 10 ≡ w → (ls : List (List ℕ)) → lines t ≡ ls
        → cond (u && w) (sheet_lines (steps (zeros NEXT_ENTRIES) (zeros OUTPUT_ENTRIES)) (zeros VIEW_ENTRIES) ls) (refusal why.Text 0) ≡ model z p → Inside t z p
    go false w q ls e h = no_model h
    go true false q ls e h = no_model h
    go true true q [] e h = no_model h
    go true true q (l ∷ ls) e h = line l ls e (record { last = eqb-true _ _ q }) (sheet_line l) refl h
