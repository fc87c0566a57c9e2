-- `needs::likeness::first_alike` meets its contract.
use Rattle.std.proofs.Common.{sym, ◌∙◌}
use Rattle.needs.proofs.Agreeing.{missed_hit}
use Rattle.needs.proofs.Starting.{begun_follows, begun_missed}
use Rattle.needs.proofs.likeness.first_alike.Goals as goal

pub returns-then-joins-clause-value : goal.returns-then-joins-clause-value
returns-then-joins-clause-value g c = missed_hit _ _ _ c.requires.missed c.requires.bounds.0 (sym c.joins.ensures ∙ c.if-joins.true)

pub returns-then-joins-clause-begun : goal.returns-then-joins-clause-begun
returns-then-joins-clause-begun g c =
    let e = missed_hit _ _ _ c.requires.missed c.requires.bounds.0 (sym c.joins.ensures ∙ c.if-joins.true) in
    begun_follows _ _ _ _ c.requires.begun e c.requires.bounds.0

pub first_from-requires-clause-missed : goal.first_from-requires-clause-missed
first_from-requires-clause-missed g c =
    let w = g.L.Likeness.laws c.args.likeness.now in
    begun_missed _ _ _ _ c.requires.begun w.joined (λ t. w.of_old t _) (λ t. w.of_slot t _) c.requires.is_old (sym c.joins.ensures ∙ c.if-joins.false) c.slot.ensures.value c.start_of-start.ensures
