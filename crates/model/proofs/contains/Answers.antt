-- `model::contains` meets its contract.
use Rattle.std.proofs.Common.{refl, sym, ◌∙◌}
use borrow.Author.Tests.{le-ltb}
use Rattle.laws.specs.Sets.{has}
use Rattle.laws.proofs.Sets.{has_beyond}
use Rattle.model.proofs.contains.Goals as goal

pub returns-then-member-lt32 : goal.returns-then-member-lt32
unfolding has
returns-then-member-lt32 c = refl

pub returns-else-member-lt32 : goal.returns-else-member-lt32
returns-else-member-lt32 c = le-ltb _ _ c.if-member-lt32.false ∙ sym (has_beyond 32 _ _ c.ranges.set.fits c.if-member-lt32.false)
