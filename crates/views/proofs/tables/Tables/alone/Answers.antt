-- `views::tables::Tables::alone` meets its contract. Assumes nothing.
use Rattle.std.proofs.Common.{refl, eqb, rules, tests}
use Rattle.laws.proofs.Ranges.{all_below}
use Rattle.views.specs.Guards.{low_at, alone_in}
use Rattle.views.proofs.tables.Tables.alone.Goals as goal

pub returns : goal.returns
unfolding alone_in
returns c =
    let t = c.args.self.now in
    all_below t.model.now.machine.sizes.states (λ s. eqb (low_at t.low.now c.args.u s) s) c.all.ensures.ran refl (λ x b q k. search (rules, tests))
