-- `sheet::self_arrows` meets its contract: the first `k` boxes have theirs. Assumes nothing.
use mathlib.Core.Path.{◌≡◌, refl, ap, ◌∙◌}
use native.Mathlib.Omega.{arith}
use native.Mathlib.Numerals.{add-one}
use Rattle.model.specs.Arrows.{drawn, selves}
use Rattle.sheet.proofs.phases.self_arrows.Goals as goal

pub loop-k-init : goal.loop-k-init
unfolding selves
loop-k-init c = refl

pub loop-k-preserved : goal.loop-k-preserved
unfolding selves
loop-k-preserved c =
    let l = c.loop-k in
    rw (add-one l.k) (c.draw.ensures ∙ ap (drawn l.k l.k) l.invariant)

pub returns : goal.returns
returns c = let e : c.loop-k.k ≡ c.args.boxes = omega arith in c.loop-k.invariant ∙ rw e
