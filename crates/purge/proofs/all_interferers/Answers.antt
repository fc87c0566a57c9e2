-- `purge::all_interferers` meets its contract. Assumes nothing.
use borrow.Author.Rules.{rules}
use Rattle.laws.specs.Sets.{pack}
use Rattle.purge.proofs.all_interferers.Goals as goal

pub returns : goal.returns
unfolding pack
returns c = λ u l. let k = (c.from_fn.ensures.items.at u 0 l).2 in search rules
