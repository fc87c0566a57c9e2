-- What an answer says of the machine and its next states.
-- Assumes nothing.
use mathlib.Core.Path.{◌≡◌}
use mathlib.Core.Bool.{true, false}
use mathlib.Core.List.{List, [], ◌∷◌}
use Prim.Native.Nat.{ℕ}
use lib.Dec.{eqb}
use lib.ListN.{length}
use borrow.Author.Tests.{eqb-true, eqb-false}
use Rattle.std.specs.Prelude.{Ok, Err}
use Rattle.laws.specs.Choice.{choose}
use Rattle.laws.proofs.Tests.{by_test}
use Rattle.model.specs.Limits.{NEXT_ENTRIES}
use Rattle.model.specs.Refused.{machine_table_fits}
use Rattle.model.specs.Refusal.{refused_as}
use Rattle.model.specs.declared.Machine.{Machine}
use Rattle.model.specs.declared.refusal.Refusal.TheVariants.{Rules}
use Rattle.model.specs.declared.refusal.Refused.{Refused}
use Rattle.reach.specs.Set.{listed}
use Rattle.reach.specs.Answered.{told, flags_of, set_of, answer_of}
use Rattle.reach.specs.declared.Set.{Set}
use Rattle.reach.proofs.Answered.{refused_length, refused_rules, found}

-- a set is found only where nothing is refused, and is that of the reachable states
pub record Found (m : Machine) (next : List ℕ) (set : Set) : Type 0 where
  pub long : length next ≡ NEXT_ENTRIES
  pub fits : machine_table_fits m next ≡ true
  pub flags : listed set ≡ flags_of m next

pub found_says : (m : Machine) (next : List ℕ) (set : Set) → answer_of m next ≡ Ok set → Found m next set
found_says m next set o =
    by_test (eqb (length next) NEXT_ENTRIES)
    (λ e. by_test (machine_table_fits m next)
    (λ f. let q : set ≡ set_of m next = let h = found m next (eqb-true _ _ e) f in cc in
    record { long = eqb-true _ _ e; fits = f; flags = rw q })
    (λ f. let h = refused_rules m next (eqb-true _ _ e) f in cc))
    (λ e. let h = refused_length m next (eqb-false _ _ e) in cc)

-- with a table of its length, only what breaks the rules is refused
pub refused_breaks : (m : Machine) (next : List ℕ) (r : Refused) → length next ≡ NEXT_ENTRIES → answer_of m next ≡ Err r →
    (machine_table_fits m next ≡ false) × (r ≡ refused_as Rules 0)
refused_breaks m next r e o =
    by_test (machine_table_fits m next)
    (λ f. let h = found m next e f in cc)
    (λ f. (f, (let h = refused_rules m next e f in cc)))

-- the refusal's number and line, 0 and 0 where nothing is refused
pub told_reached : (m : Machine) (next : List ℕ) →
    told (answer_of m next) ≡ choose (eqb (length next) NEXT_ENTRIES) (choose (machine_table_fits m next) (0 ∷ 0 ∷ []) (12 ∷ 0 ∷ [])) (10 ∷ 0 ∷ [])
unfolding answer_of choose
told_reached m next =
    by_test (eqb (length next) NEXT_ENTRIES)
    (λ e. by_test (machine_table_fits m next) (λ f. rw (e, f)) (λ f. rw (e, f)))
    (λ e. rw e)
