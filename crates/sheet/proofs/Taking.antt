-- Laws of taking a line at a place, both ways. Assumes nothing.
use Rattle.model.specs.declared.refusal.Refusal.{Refusal}
use Rattle.model.specs.declared.refusal.Refusal.TheVariants as why
use Rattle.std.specs.Prelude.{Result, Ok, Err}
use Prim.Native.Nat.{ℕ, ◌+◌, ◌<◌, ◌≤◌}
use mathlib.Core.Path.{◌≡◌, refl, sym, ap, ◌∙◌}
use mathlib.Core.List.{List}
use mathlib.Core.Bool.{Bool, true, false, cond}
use native.Mathlib.Omega.{arith}
use borrow.Author.Tests.{ltb-true, ltb-false, lt-ltb, le-ltb}
use mathlib.Core.Logic.{◌⊎◌, inl, inr}
use lib.ListN.{length}
use lib.Dec.{ltb}
use Rattle.text.specs.Lines.{end_of, line_at}
use Rattle.model.specs.declared.refusal.Refused.{Refused}
use Rattle.model.specs.Refusal.{refused_as}
use Rattle.sheet.specs.declared.Taken.{Taken}
use Rattle.sheet.specs.declared.Numbers.{Numbers}
use Rattle.sheet.specs.Numbers.{Record, on_record, kept_as, as_pair}
use Rattle.sheet.specs.Phases.{taken, taken_from, taken_by, TakenBy}

-- what was kept of a record says which record it was
pub record KeptOf {T : Type 0} (f : ℕ → ℕ → ℕ → ℕ → T) (r : Record) (x : T) : Type 0 where
  pub numbers : Numbers
  pub is : r ≡ Ok numbers
  pub read_is : x ≡ f numbers.first numbers.second numbers.third numbers.fourth

module _ {T : Type 0} (f : ℕ → ℕ → ℕ → ℕ → T) where
  pub kept_ok : (r : Record) (x : T) → kept_as f r ≡ Ok x → KeptOf f r x
  kept_ok (Ok ns) x h = record { numbers = ns; is = refl; read_is = sym cc }
  kept_ok (Err e) x h = let z : ◌≡◌ {A = ℕ} 0 1 = cc in absurd (omega arith)

  pub kept_err : (r : Record) (e : Refusal) → kept_as f r ≡ Err e → r ≡ Err e
  kept_err (Ok ns) e h = let z : ◌≡◌ {A = ℕ} 0 1 = cc in absurd (omega arith)
  kept_err (Err x) e h = let z : x ≡ e = cc in ap Err z

-- what is made of two positions
module _ {A : Type 0} (g : ℕ → ℕ → A) (z : Refusal → A) where
  pub pair_ok : (r : Record) (x : ℕ × ℕ) → as_pair r ≡ Ok x → on_record r (λ v u _ _. g v u) z ≡ g x.0 x.1
  pair_ok (Ok ns) x h = let e : (ns.first, ns.second) ≡ x = cc in rw (← e)
  pair_ok (Err e) x h = let z : ◌≡◌ {A = ℕ} 0 1 = cc in absurd (omega arith)

  pub pair_err : (r : Record) (e : Refusal) → as_pair r ≡ Err e → on_record r (λ v u _ _. g v u) z ≡ z e
  pair_err r e h = rw (kept_err (λ v u _ _. (v, u)) r e h)

module _ {T : Type 0} (f : List ℕ → Result T Refusal) (t : List ℕ) (at n : ℕ) where
  -- a reader that says of each line what f says takes what f takes
  pub taken_is : {says : List ℕ → Result T Refusal → Type 0} → ((l : List ℕ) (x : Result T Refusal) → says l x → x ≡ f l) → {r : Result (Taken T) Refused} → TakenBy says t at n r → r ≡ taken_by f t at n
  taken_is {says} h {r} k = go k.was
    where
      go : ((length t ≤ at) × (r ≡ Err (refused_as why.Ended n))) ⊎ ((at < length t) × (x : Result T Refusal) × says (line_at t at) x × (r ≡ taken_from x (end_of 10 t at + 1) n)) → r ≡ taken_by f t at n
      go (inl (p, q)) = q ∙ rw (le-ltb at (length t) p)
      go (inr (p, x, k, q)) = q ∙ rw (lt-ltb at (length t) p, h _ _ k)

  -- a line was taken
  pub record TookFrom (x : Taken T) : Type 0 where
    pub within : at < length t
    pub line_is : f (line_at t at) ≡ Ok x.read
    pub next_is : x.next ≡ end_of 10 t at + 1

  pub took_from : (x : Taken T) → taken_by f t at n ≡ Ok x → TookFrom x
  took_from x h = go (ltb at (length t)) refl (f (line_at t at)) refl h
    where
      go : (b' : Bool) → ltb at (length t) ≡ b' → (r : Result T Refusal) → f (line_at t at) ≡ r
          → cond b' (taken_from r (end_of 10 t at + 1) n) (Err (refused_as why.Ended n)) ≡ Ok x → TookFrom x
      go true q (Ok y) e h =
          let z : taken y (end_of 10 t at + 1) ≡ x = cc in
          record { within = ltb-true _ _ q; line_is = e ∙ ap (λ (y : Taken T). Ok y.read) z; next_is = sym (ap (λ (y : Taken T). y.next) z) }
      go true q (Err x) e h = let z : ◌≡◌ {A = ℕ} 0 1 = cc in absurd (omega arith)
      go false q r e h = let z : ◌≡◌ {A = ℕ} 0 1 = cc in absurd (omega arith)

  -- no line was taken: the text has ended, or the line is bad
  pub data StoppedFrom : Refusal → Type 0 where
    ended : length t ≤ at → StoppedFrom why.Ended
    bad : {x : Refusal} → at < length t → f (line_at t at) ≡ Err x → StoppedFrom x

  pub stopped_from : (x : Refused) → taken_by f t at n ≡ Err x → StoppedFrom x.refusal × (x.line ≡ n)
  stopped_from x h = go (ltb at (length t)) refl (f (line_at t at)) refl h
    where
      go : (b' : Bool) → ltb at (length t) ≡ b' → (r : Result T Refusal) → f (line_at t at) ≡ r
          → cond b' (taken_from r (end_of 10 t at + 1) n) (Err (refused_as why.Ended n)) ≡ Err x → StoppedFrom x.refusal × (x.line ≡ n)
      go true q (Ok y) e h = let z : ◌≡◌ {A = ℕ} 0 1 = cc in absurd (omega arith)
      go true q (Err y) e h =
          let z : refused_as y n ≡ x = cc in
          (rw (← z) (bad {x = y} (ltb-true _ _ q) e), sym (ap (λ (r : Refused). r.line) z))
      go false q r e h =
          let z : refused_as why.Ended n ≡ x = cc in
          (rw (← z) (ended (ltb-false _ _ q)), sym (ap (λ (r : Refused). r.line) z))
