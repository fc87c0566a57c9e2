-- The walk over a run from its right end: one action more.
-- Assumes nothing.
use mathlib.Core.Path.{◌≡◌, sym, ◌∙◌, ap, subst}
use mathlib.Core.Bool.{true, false}
use mathlib.Core.List.{List, [], ◌∷◌}
use Prim.Native.Nat.{ℕ, ◌+◌, ◌<◌}
use native.Mathlib.Numerals.{add-one}
use native.Mathlib.Omega.{arith}
use lib.Bits.{bit_or}
use lib.ListN.{length, get_or, set, drop}
use lib.Seq.{drop-cons, drop-length}
use Rattle.std.proofs.lemmas.List.{drop-set}
use Rattle.laws.specs.Choice.{choose}
use Rattle.laws.specs.Sets.{has}
use Rattle.purge.specs.Sets.{touching, touches, marked}

module _ (owners into : List ℕ) (target : ℕ) where
  pub mark_empty : (run kept : List ℕ) → length kept ≡ length run →
      (target ≡ touching owners into target (drop (length run) run))
      × (drop (length run) kept ≡ marked (touches owners into target) (drop (length run) run))
  unfolding touching marked
  mark_empty run kept l =
      let none : drop (length run) kept ≡ [] = ap (λ n. drop n kept) (sym l) ∙ drop-length kept in
      (rw drop-length, rw (drop-length, none))

  -- s is the set of what is left of i, and the action at j stands before it
  module _ (run kept : List ℕ) {s i j : ℕ} (here : j < length run) (long : length kept ≡ length run) (next : j + 1 ≡ i)
      (so_far : s ≡ touching owners into target (drop i run))
      (written : drop i kept ≡ marked (touches owners into target) (drop i run)) where
    split : drop j run ≡ get_or run j 0 ∷ drop i run
    split = drop-cons run j 0 here ∙ ap (λ n. get_or run j 0 ∷ drop n run) (sym (add-one j) ∙ next)

    put : (x : ℕ) → drop j (set kept j x) ≡ x ∷ drop i kept
    put x = drop-set kept j x (omega arith) ∙ ap (λ n. x ∷ drop n kept) next

    pub mark_kept : {m : ℕ} → has s (get_or owners (get_or run j 0) 0) ≡ true → m ≡ get_or into (get_or owners (get_or run j 0) 0) 0 →
        (bit_or s m ≡ touching owners into target (drop j run))
        × (drop j (set kept j (get_or run j 0)) ≡ marked (touches owners into target) (drop j run))
    unfolding touching marked touches choose
    mark_kept h e =
        let q : has (touching owners into target (drop i run)) (get_or owners (get_or run j 0) 0) ≡ true = subst (λ x. has x (get_or owners (get_or run j 0) 0) ≡ true) so_far h in
        (rw (split, q, e, so_far), rw (put (get_or run j 0), split, q, written))

    pub mark_dropped : has s (get_or owners (get_or run j 0) 0) ≡ false →
        (s ≡ touching owners into target (drop j run))
        × (drop j (set kept j 255) ≡ marked (touches owners into target) (drop j run))
    unfolding touching marked touches choose
    mark_dropped h =
        let q : has (touching owners into target (drop i run)) (get_or owners (get_or run j 0) 0) ≡ false = subst (λ x. has x (get_or owners (get_or run j 0) 0) ≡ false) so_far h in
        (rw (split, q) so_far, rw (put 255, split, q, written))
