-- `sheet::labels::line_start` meets its contract. Assumes nothing.
use Rattle.std.proofs.Common.{◌≡◌, refl, ◌∙◌, arith, add-one}
use Rattle.text.proofs.Parts.{line_ends}
use Rattle.sheet.specs.Label.{line_start}
use Rattle.sheet.proofs.Places.{placed}
use Rattle.sheet.proofs.labels.line_start.Goals as goal

pub loop-k-init : goal.loop-k-init
unfolding line_start
loop-k-init c = refl

pub overflow_add-at : goal.overflow_add-at
overflow_add-at c = omega (arith, c.find-at.ensures, line_ends c.args.sheet.ended c.loop-k.at (rw c.loop-k.invariant (placed c.args.sheet.ended c.loop-k.k (omega arith)).within))

pub loop-k-preserved : goal.loop-k-preserved
unfolding line_start
loop-k-preserved c = rw (c.find-at.ensures, c.loop-k.invariant, add-one c.loop-k.k)

pub returns : goal.returns
returns c = let e : c.loop-k.k ≡ c.args.index = omega arith in c.loop-k.invariant ∙ rw e
