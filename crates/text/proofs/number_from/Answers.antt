-- `text::number_from` meets its contract. Assumes nothing.
use Rattle.std.proofs.Common.{sym, ap, ◌∙◌, arith}
use Rattle.text.specs.Lines.{more_from}
use Rattle.text.proofs.Digits.{number_over, number_bad, number_good, zero_any}
use Rattle.text.proofs.number_from.Goals as goal

pub returns-then-line-at : goal.returns-then-line-at
returns-then-line-at c = number_over _ _ _ c.if-line-at.true

pub returns-in_default : goal.returns-in_default
returns-in_default c = rw c.find.ensures (number_bad _ _ _ (omega arith) (sym c.grown.ensures ∙ c.in_default.is))

pub returns-then-zero : goal.returns-then-zero
returns-then-zero c = c.zero_from.ensures ∙ zero_any _ _ _ ∙ ap (more_from _ _ _) (sym c.if-zero.true) ∙ number_good _ _ _ (omega arith) _ (sym c.grown.ensures ∙ c.in-Some.is)

pub returns-else-zero : goal.returns-else-zero
returns-else-zero c = c.more_from.ensures ∙ number_good _ _ _ (omega arith) _ (sym c.grown.ensures ∙ c.in-Some.is)
