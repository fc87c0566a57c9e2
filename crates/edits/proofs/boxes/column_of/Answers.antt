-- `edits::boxes::column_of` meets its contract. Assumes nothing.
use Rattle.std.proofs.Common.{◌≡◌, ◌<◌, ◌^◌, ℕ, refl, sym, ap, ◌∙◌, arith}
use Rattle.laws.specs.Bits.{gather}
use Rattle.laws.proofs.Bits.{bit_below, bit_high, gather_small}
use Rattle.edits.specs.Records.{at}
use Rattle.edits.specs.Moved.{arrow_into, column_of}
use Rattle.edits.specs.Private.{one_if}
use Rattle.edits.proofs.Chains.{gather_yes, gather_no}
use Rattle.model.specs.Limits.{BOXES}
use Rattle.edits.proofs.boxes.column_of.Goals as goal
use Rattle.edits.proofs.boxes.column_of.Goals.{then-has, else-has}

pub loop-k-init : goal.loop-k-init
unfolding gather
loop-k-init c = refl

pub with_bit-column-requires : goal.with_bit-column-requires
with_bit-column-requires c =
    let f = arrow_into c.args.list.now c.args.p in
    let s : gather 0 c.loop-k.k f < 2 ^ c.loop-k.k = gather_small 0 c.loop-k.k f (λ j. bit_below c.args.p (at c.args.list.now j).arrows) in
    (omega arith, bit_high c.loop-k.k c.loop-k.k c.loop-k.column (omega (arith, c.loop-k.invariant)) (omega arith))

pub loop-k-preserved : goal.loop-k-preserved
loop-k-preserved c =
    let f = arrow_into c.args.list.now c.args.p in
    elim c.if-has.branch [
      | then-has w ↦ omega (arith, w.column-is, w.with_bit-column.ensures, c.loop-k.invariant, gather_yes c.loop-k.k f (sym c.has.ensures.number ∙ ap one_if w.if-has.true))
      | else-has w ↦ omega (arith, w.column-is, c.loop-k.invariant, gather_no c.loop-k.k f (sym c.has.ensures.number ∙ ap one_if w.if-has.false))
    ]

pub returns : goal.returns
unfolding column_of
returns c =
    let e : c.loop-k.k ≡ BOXES = omega arith in
    c.loop-k.invariant ∙ ap (λ (m : ℕ). gather 0 m (arrow_into c.args.list.now c.args.p)) e
