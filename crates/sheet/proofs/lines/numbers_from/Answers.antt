-- `sheet::numbers_from` meets its contract. Assumes nothing.
use mathlib.Core.Path.{sym, ap, ◌∙◌}
use native.Mathlib.Omega.{arith}
use Rattle.text.specs.declared.Field.{Field}
use Rattle.text.proofs.Parts.{end_within}
use Rattle.sheet.proofs.Collect.{start, too_many, too_few, all, a_number, no_number}
use Rattle.sheet.proofs.lines.numbers_from.Goals as goal
use Rattle.sheet.proofs.lines.numbers_from.Goals.{in-Some, in-None}

pub loop-k-init : goal.loop-k-init
loop-k-init c = start _ _ _ c.requires

pub returns-then-line-at : goal.returns-then-line-at
returns-then-line-at c = too_few c.loop-k.invariant (omega arith) (omega arith)

pub overflow_add-at : goal.overflow_add-at
overflow_add-at c = omega (arith, ap (λ (f : Field). f.end) c.number_from-field.ensures, end_within c.args.line.now 9 c.loop-k.at (omega arith))

pub loop-k-preserved : goal.loop-k-preserved
loop-k-preserved c = rw (ap (λ (f : Field). f.end) c.number_from-field.ensures)
    (elim c.match-field.branch [
      | in-Some w ↦ rw (w.values-is, w.good-is) (a_number c.loop-k.invariant (omega arith) (omega arith) _ (sym (ap (λ (f : Field). f.number) c.number_from-field.ensures) ∙ w.in-Some.is))
      | in-None w ↦ rw (w.values-is, w.good-is) (no_number c.loop-k.invariant (omega arith) (omega arith) (sym (ap (λ (f : Field). f.number) c.number_from-field.ensures) ∙ w.in-None.is))
    ])

pub returns-then-at-line : goal.returns-then-at-line
returns-then-at-line c = too_many c.loop-k.invariant (omega arith) (omega arith)

pub returns-then-good : goal.returns-then-good
returns-then-good c = rw c.if-good.true at (all c.loop-k.invariant (omega arith) (omega arith))

pub returns-else-good : goal.returns-else-good
returns-else-good c = rw c.if-good.false at (all c.loop-k.invariant (omega arith) (omega arith))
