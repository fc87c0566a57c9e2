-- `purge::interferers` meets its contract: the set holds the boxes from v on. Assumes nothing.
use mathlib.Core.Path.{◌≡◌, refl, ap, ◌∙◌}
use mathlib.Core.Bool.{Bool, true, false, cond}
use mir.Val.{bool_byte}
use Prim.Native.Nat.{◌<◌}
use borrow.Author.Rules.{rules}
use native.Mathlib.Omega.{arith}
use Rattle.laws.specs.Sets.{pack}
use Rattle.purge.proofs.Sets.{pack_fits, pack_more}
use Rattle.purge.proofs.interferers.Goals as goal

bit : (b : Bool) → bool_byte b ≡ cond b 1 0
bit true = refl
bit false = refl

pub boxes-init : goal.boxes-init
unfolding pack
boxes-init c = refl

pub overflow_mul-set : goal.overflow_mul-set
overflow_mul-set c = let h = pack_fits _ _ _ (omega arith) c.boxes.invariant in omega arith

pub overflow_add-set : goal.overflow_add-set
overflow_add-set c =
    let h = pack_fits _ _ _ (omega arith) c.boxes.invariant in
    let b : c.from.result < 2 = search rules in
    omega arith

pub boxes-preserved : goal.boxes-preserved
boxes-preserved c = pack_more _ _ c.boxes-test.true (omega arith) c.boxes.invariant (c.from.ensures ∙ bit c.arrow.result ∙ ap (λ flag. cond flag 1 0) c.arrow.ensures)
