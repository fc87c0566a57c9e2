-- A table that names, for each number of a state below n, a state below n with that number and the same value.
-- Assumes nothing.
use mathlib.Core.Path.{◌≡◌, sym, ap, subst, ◌∙◌}
use mathlib.Core.Logic.{◌≢◌}
use mathlib.Core.Bool.{Bool, true, false}
use mathlib.Core.List.{List}
use Prim.Native.Nat.{ℕ, ◌+◌, ◌<◌, ◌≤◌}
use native.Mathlib.Nat.{not-suc-le-zero}
use native.Mathlib.Omega.{arith}
use borrow.Author.Count.{below_more}
use lib.ListN.{length, get_or, set}
use lib.Seq.{get_or-set_same, get_or-set_other}
use Rattle.views.specs.Guards.{sent, spot, Links, Calm}

pub record Linked (n : ℕ) (number value : ℕ → ℕ) (table : List ℕ) : Type 0 where
  pub below : (s : ℕ) → s < n → get_or table (number s) 0 < n
  pub like : (s : ℕ) → s < n → number (get_or table (number s) 0) ≡ number s
  pub agree : (s : ℕ) → s < n → value s ≡ value (get_or table (number s) 0)

module _ (number value : ℕ → ℕ) where
  linked_none : (table : List ℕ) → Linked 0 number value table
  linked_none table = record {
    below = λ s l. absurd (not-suc-le-zero l);
    like = λ s l. absurd (not-suc-le-zero l);
    agree = λ s l. absurd (not-suc-le-zero l);
  }

  -- an earlier state is there
  linked_keep : {n : ℕ} {table : List ℕ} (t : ℕ) → Linked n number value table → t ≡ get_or table (number n) 0 → t < n → number t ≡ number n →
      value n ≡ value t → Linked (n + 1) number value table
  linked_keep {n} {table} t h e l k v = record {
    below = below_more (λ s. get_or table (number s) 0 < n + 1) n (λ s p. let q = h.below s p in omega arith) (omega arith);
    like = below_more (λ s. number (get_or table (number s) 0) ≡ number s) n h.like (subst (λ x. number x ≡ number n) e k);
    agree = below_more (λ s. value s ≡ value (get_or table (number s) 0)) n h.agree (subst (λ x. value n ≡ value x) e v);
  }

  -- no earlier state is there: the number is a new one
  linked_put : {n : ℕ} {table : List ℕ} (t : ℕ) → Linked n number value table → t ≡ get_or table (number n) 0 → number n < length table →
      (t < n → number t ≡ number n → ⊥) → Linked (n + 1) number value (set table (number n) n)
  linked_put {n} {table} t h e l off = record {
    below = below_more (λ s. get_or (set table (number n) n) (number s) 0 < n + 1) n
        (λ s p. let q = h.below s p in let r = there s p in omega arith) (omega (arith, here));
    like = below_more (λ s. number (get_or (set table (number n) n) (number s) 0) ≡ number s) n (λ s p. ap number (there s p) ∙ h.like s p) (ap number here);
    agree = below_more (λ s. value s ≡ value (get_or (set table (number n) n) (number s) 0)) n
        (λ s p. h.agree s p ∙ ap value (sym (there s p))) (ap value (sym here));
  }
    where
      here : get_or (set table (number n) n) (number n) 0 ≡ n
      here = get_or-set_same table (number n) n 0 l

      fresh : (s : ℕ) → s < n → number s ≢ number n
      fresh s p q =
          off (subst (λ x. x < n) (sym e) (subst (λ x. get_or table x 0 < n) q (h.below s p)))
          (subst (λ x. number x ≡ number n) (sym e) (subst (λ x. number (get_or table x 0) ≡ number n) q (h.like s p ∙ q)))

      there : (s : ℕ) → s < n → get_or (set table (number n) n) (number s) 0 ≡ get_or table (number s) 0
      there s p = get_or-set_other table (number n) (number s) n 0 (fresh s p)

  linked_all : {n : ℕ} {table : List ℕ} → Linked n number value table → (s t : ℕ) → s < n → t < n → number s ≡ number t → value s ≡ value t
  linked_all {table = table} h s t p q r = h.agree s p ∙ ap (λ i. value (get_or table i 0)) r ∙ sym (h.agree t q)

-- ---- what `weak` knows of the states below n
pub record WeakTo (actions : ℕ) (next low table : List ℕ) (u o a n : ℕ) : Type 0 where
  pub so : Linked n (spot low u o) (sent actions next low u a) table

pub weak_none : (actions : ℕ) (next low table : List ℕ) (u o a : ℕ) → WeakTo actions next low table u o a 0
weak_none actions next low table u o a = record { so = linked_none (spot low u o) (sent actions next low u a) table }

module _ {actions : ℕ} {next low table : List ℕ} {u o a n : ℕ} (h : WeakTo actions next low table u o a n) where
  pub weak_keep : {i t x y : ℕ} {b : Bool} → i ≡ spot low u o n → t ≡ get_or table i 0 → Links low u o i n t b → b ≡ true →
      x ≡ sent actions next low u a n → y ≡ sent actions next low u a t → x ≡ y → WeakTo actions next low table u o a (n + 1)
  weak_keep {t = t} ei et w b ex ey q =
      record { so = linked_keep (spot low u o) (sent actions next low u a) t h.so (rw ei at et) (w.below b) (w.like b ∙ ei) (sym ex ∙ q ∙ ey) }

  pub weak_put : {i t v : ℕ} {b : Bool} → i ≡ spot low u o n → i < length table → t ≡ get_or table i 0 → Links low u o i n t b → b ≡ false →
      v ≡ n → WeakTo actions next low (set table i v) u o a (n + 1)
  weak_put {i} {t} ei l et w b ev =
      rw (ei, ev) (record { so = linked_put (spot low u o) (sent actions next low u a) t h.so (rw ei at et) (rw ei at l) (λ p k. w.other b p (k ∙ sym ei)) })

  pub weak_all : {states : ℕ} → states ≤ n → Calm states actions next low u o a
  weak_all l = record {
    calm = λ s t p q r k. linked_all (spot low u o) (sent actions next low u a) h.so s t (omega arith) (omega arith) (rw (r, k));
  }
