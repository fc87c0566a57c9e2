-- The history: only its first entries count, and what one entry more does to it.
-- Assumes nothing.
use mathlib.Core.Path.{◌≡◌, refl, sym, ap, ◌∙◌}
use mathlib.Core.Bool.{true, false, not}
use mathlib.Core.List.{List}
use Prim.Native.Nat.{ℕ, ◌+◌, ◌<◌, ◌≤◌}
use native.Mathlib.Omega.{arith}
use borrow.Author.Count.{below_more}
use borrow.Author.Tests.{leb-true, eqb-true, eq-eqb}
use Rattle.laws.proofs.Tests.{not_both, false_of, both_true, both_of, brings_of}
use Rattle.laws.proofs.Range.{some_same, some_none, some_of}
use Rattle.model.specs.Limits.{EDITS}
use Rattle.edits.specs.History.{History, DELETE, entry, push, takes, deleted_by, deleted}
use Rattle.edits.specs.Allowed.{made, good_entry}
use Rattle.edits.specs.declared.Entry.{Entry}
use Rattle.edits.proofs.Words.{entry_before, entry_new}

-- ---- equal as far as n
pub deleted_same : (g h : List ℕ) (n i : ℕ) → ((k : ℕ) → k < n → entry g k ≡ entry h k) → deleted_by g n i ≡ deleted_by h n i
unfolding deleted_by
deleted_same g h n i s = some_same n (λ k. takes (entry g k) i) (λ k. takes (entry h k) i) (λ k b. ap (λ (e : Entry). takes e i) (s k b))

pub entry_same : (g h : List ℕ) (k : ℕ) → ((j : ℕ) → j < k + 1 → entry g j ≡ entry h j) → good_entry g k ≡ good_entry h k
unfolding good_entry
entry_same g h k s = rw (s k (omega arith), deleted_same g h k (entry h k).id (λ j l. s j (omega arith)))

-- an id that fewer entries delete is deleted
pub deleted_fewer : (w : List ℕ) (m n i : ℕ) → m ≤ n → deleted_by w n i ≡ false → deleted_by w m i ≡ false
unfolding deleted_by
deleted_fewer w m n i l d =
    some_none m (λ k. takes (entry w k) i) (λ k s. false_of (λ e. not_both (some_of n (λ k. takes (entry w k) i) k (omega arith) e) d))

-- the entry that deletes an id does so among the first
pub deleted_at : (w : List ℕ) (n k : ℕ) → k < n → (entry w k).kind ≡ DELETE → deleted_by w n (entry w k).id ≡ true
unfolding deleted_by
deleted_at w n k l e = some_of n (λ j. takes (entry w j) (entry w k).id) k l (both_of (eq-eqb _ _ e) (eq-eqb (entry w k).id (entry w k).id refl))

-- ---- one entry more
module _ (h : History) (e : Entry) (room : h.count < EDITS) where
  pub push_old : (k : ℕ) → k < h.count → entry (push h e).words k ≡ entry h.words k
  push_old k s = entry_before h.count e h.words k (omega arith) s

  pub push_new : entry (push h e).words h.count ≡ e
  push_new = entry_new h.count e h.words room

  pub deleted_push : (i : ℕ) → deleted h i ≡ false → (e.kind ≡ DELETE → e.id ≡ i → ⊥) → deleted (push h e) i ≡ false
  unfolding deleted_by
  deleted_push i d f =
      some_none (h.count + 1) (λ k. takes (entry (push h e).words k) i) (below_more (λ (k : ℕ). takes (entry (push h e).words k) i ≡ false) h.count
      (λ k s. false_of (λ t. not_both (some_of h.count (λ k. takes (entry h.words k) i) k s (sym (ap (λ (x : Entry). takes x i) (push_old k s)) ∙ t)) d))
      (ap (λ (x : Entry). takes x i) push_new ∙ false_of (λ t. f (eqb-true _ _ (both_true _ _ t).0) (eqb-true _ _ (both_true _ _ t).1))))

  -- the entries stay good
  pub push_good : ((k : ℕ) → k < h.count → good_entry h.words k ≡ true) → made e ≡ true → (e.kind ≤ DELETE → deleted h e.id ≡ false)
      → (k : ℕ) → k < h.count + 1 → good_entry (push h e).words k ≡ true
  unfolding good_entry
  push_good old m d = below_more (λ (k : ℕ). good_entry (push h e).words k ≡ true) h.count
      (λ k s. entry_same (push h e).words h.words k (λ j t. push_old j (omega arith)) ∙ old k s)
      (rw (push_new, deleted_same (push h e).words h.words h.count e.id push_old)
      (both_of m (brings_of _ (λ b. ap not (d (leb-true _ _ b))))))
