-- What nested searches find: the first place, its numbers ascending. `B` says which places are bad, `at` what is answered there.
--     searched_range    a search over a range, of searches
--     searched_when     a search that a test guards
--     searched_flag     the innermost: an answer where a test holds
-- Assumes nothing.
use mathlib.Core.Path.{◌≡◌, subst}
use mathlib.Core.Logic.{⊎_elim}
use mathlib.Core.Bool.{Bool, true}
use mathlib.Core.List.{List, [], ◌∷◌}
use mathlib.Core.Option.{Option, none, some}
use Prim.Native.Nat.{ℕ, ◌<◌}
use Rattle.laws.specs.Choice.{when}
use Rattle.laws.specs.Search.{first_of, First}
use Rattle.laws.specs.Order.{Earlier}
use Rattle.laws.proofs.Tests.{not_both}
use Rattle.laws.proofs.Search.{when_none, when_some, when_clear, first_of_clear, first_of_at}

-- x is answered at the first bad place
pub record Found {A : Type 0} (B : List ℕ → Type 0) (at : List ℕ → A) (x : A) : Type 0 where
  pub place : List ℕ
  pub is : at place ≡ x
  pub bad : B place
  pub first : (q : List ℕ) → Earlier q place → B q → ⊥

-- r is the answer at the first bad place, and none where no place is bad
pub record Searched {A : Type 0} (B : List ℕ → Type 0) (at : List ℕ → A) (r : Option A) : Type 0 where
  pub clear : r ≡ none → (q : List ℕ) → B q → ⊥
  pub found : (x : A) → r ≡ some x → Found B at x

-- a place that begins with a number below n
abbrev pub Below : ℕ → (ℕ → List ℕ → Type 0) → List ℕ → Type 0
Below n B [] = ⊥
Below n B (i ∷ q) = (i < n) × B i q

abbrev pub Guarded : Bool → (List ℕ → Type 0) → List ℕ → Type 0
Guarded b B q = (b ≡ true) × B q

abbrev pub Here : Bool → List ℕ → Type 0
Here b [] = b ≡ true
Here b (i ∷ q) = ⊥

module _ {A : Type 0} where
  pub searched_range : (n : ℕ) (f : ℕ → Option A) (B : ℕ → List ℕ → Type 0) (at : List ℕ → A) →
      ((i : ℕ) → Searched (B i) (λ q. at (i ∷ q)) (f i)) → Searched (Below n B) at (first_of n f)
  searched_range n f B at h = record { clear = clear'; found = found' }
    where
      clear' : first_of n f ≡ none → (q : List ℕ) → Below n B q → ⊥
      clear' e [] b = b
      clear' e (i ∷ q) b = (h i).clear (first_of_clear n f e i b.0) q b.1

      found' : (x : A) → first_of n f ≡ some x → Found (Below n B) at x
      found' x e = record { place = r.at ∷ g.place; is = g.is; bad = (r.below, g.bad); first = first' }
        where
          r : First n f x
          r = first_of_at n f x e

          g : Found (B r.at) (λ q. at (r.at ∷ q)) x
          g = (h r.at).found x r.here

          first' : (q : List ℕ) → Earlier q (r.at ∷ g.place) → Below n B q → ⊥
          first' [] l b = b
          first' (i ∷ q) l b =
              ⊎_elim (λ k. (h i).clear (r.before.clear i k) q b.1)
              (λ k. g.first q k.1 (subst (λ (j : ℕ). B j q) k.0 b.1)) l

  pub searched_when : (b : Bool) (r : Option A) (B : List ℕ → Type 0) (at : List ℕ → A) →
      Searched B at r → Searched (Guarded b B) at (when b r)
  searched_when b r B at h = record {
    clear = λ e q g. h.clear (when_none b r e g.0) q g.1;
    found = λ x e. let w = when_some b r x e in let g = h.found x w.1 in
        record { place = g.place; is = g.is; bad = (w.0, g.bad); first = λ q l k. g.first q l k.1 };
  }

  pub searched_flag : (b : Bool) (at : List ℕ → A) → Searched (Here b) at (when b (some (at [])))
  searched_flag b at = record {
    clear = clear';
    found = λ x e. let w = when_some b (some (at [])) x e in record { place = []; is = cc; bad = w.0; first = none_first };
  }
    where
      clear' : when b (some (at [])) ≡ none → (q : List ℕ) → Here b q → ⊥
      clear' e [] g = not_both g (when_clear b (at []) e)
      clear' e (i ∷ q) g = g

      none_first : (q : List ℕ) → Earlier q [] → Here b q → ⊥
      none_first [] l g = l
      none_first (i ∷ q) l g = l
