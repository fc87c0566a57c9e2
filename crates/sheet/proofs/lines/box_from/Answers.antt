-- `sheet::box_from` meets its contract. Assumes nothing.
use mathlib.Core.Path.{ap, ◌∙◌}
use native.Mathlib.Omega.{arith}
use Rattle.text.specs.declared.Field.{Field}
use Rattle.sheet.specs.Numbers.{as_first}
use Rattle.sheet.proofs.Fields.{none, one, two, more}
use Rattle.sheet.proofs.lines.box_from.Goals as goal

pub returns-then-line-from : goal.returns-then-line-from
returns-then-line-from c = ap as_first (none c.args.ids.now c.args.line.now _ c.if-line-from.true)

pub returns-then-line-end : goal.returns-then-line-end
returns-then-line-end c = ap as_first (one c.args.ids.now c.args.line.now _ (omega arith) _ (ap (λ (f : Field). f.end) c.number_from-field.ensures) c.if-line-end.true)

pub returns-then-last-line : goal.returns-then-last-line
returns-then-last-line c = ap as_first (more c.args.ids.now c.args.line.now _ (omega arith) _ (ap (λ (f : Field). f.end) c.number_from-field.ensures) (omega arith) _ c.find-last.ensures c.if-last-line.true)

pub returns : goal.returns
returns c = c.box_of.ensures ∙ ap as_first (rw (ap (λ (f : Field). f.number) c.number_from-field.ensures) (two c.args.ids.now c.args.line.now _ (omega arith) _ (ap (λ (f : Field). f.end) c.number_from-field.ensures) (omega arith) _ c.find-last.ensures c.if-last-line.false))
