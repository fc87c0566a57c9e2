-- What a run that is asked for satisfies.
-- Assumes nothing.
use mathlib.Core.Path.{◌≡◌, refl, sym, ◌∙◌, ap}
use mathlib.Core.Bool.{Bool, true, false, ◌&&◌}
use mathlib.Core.List.{List}
use Prim.Native.Nat.{ℕ, zero, suc, ◌≤◌}
use native.Mathlib.Numerals.{add-one}
use native.Mathlib.Omega.{arith}
use lib.ListN.{length, get_or, take}
use lib.Seq.{take-length}
use borrow.Author.Tests.{ltb-true}
use Rattle.std.specs.List.{list_all}
use Rattle.std.proofs.lemmas.List.Folds.{list_all_more}
use Rattle.laws.specs.Choice.{both}
use Rattle.laws.specs.Range.{every}
use Rattle.laws.proofs.Tests.{both_true}
use Rattle.model.specs.Refused.{model_fits}
use Rattle.model.specs.declared.Model.{Model}
use Rattle.purge.specs.Purged.{Askable, asked}

pub askable : (m : Model) (position : ℕ) (run : List ℕ) → model_fits m ≡ true → asked m position run ≡ true → Askable m position run
unfolding asked
askable m position run f a =
    let p = both_true _ _ a in
    record { good = f; position_in = ltb-true _ _ p.0; named = (both_true _ _ p.1).1 }
