-- `text::zero_from` meets its contract. Assumes nothing.
use Rattle.text.proofs.Digits.{zero_good, zero_bad}
use Rattle.text.proofs.zero_from.Goals as goal

pub returns-then-end-at : goal.returns-then-end-at
returns-then-end-at c = zero_good _ _ _ c.find-end.ensures c.if-end-at.true

pub returns-else-end-at : goal.returns-else-end-at
returns-else-end-at c = zero_bad _ _ _ c.find-end.ensures c.if-end-at.false
