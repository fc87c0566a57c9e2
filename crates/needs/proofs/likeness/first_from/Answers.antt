-- `needs::likeness::first_from` meets its contract. The loop's invariant: no state passed counts and is alike to s.
use Rattle.std.proofs.Common.{sym, ◌∙◌}
use Rattle.needs.proofs.Agreeing.{missed_follows, missed_hit, missed_all}
use Rattle.needs.proofs.likeness.first_from.Goals as goal

pub earlier-preserved-then-from-t : goal.earlier-preserved-then-from-t
earlier-preserved-then-from-t g c =
    missed_follows _ _ _ (g.L.Likeness.laws c.args.likeness.now).joined c.requires.led c.earlier-test.true c.earlier.invariant c.from.ensures c.if-from-t.true

pub returns-then-joins-clause-value : goal.returns-then-joins-clause-value
returns-then-joins-clause-value g c = missed_hit _ _ _ c.earlier.invariant c.earlier-test.true (sym c.joins.ensures ∙ c.if-joins.true)

pub returns-clause-value : goal.returns-clause-value
returns-clause-value g c = missed_all _ _ _ c.earlier.invariant c.earlier-test.false
