-- `views::tables::Tables::is_idle` meets its contract. Assumes nothing.
use Rattle.std.proofs.Common.{refl, ◌+◌, ◌*◌, eqb, get_or, rules, tests}
use Rattle.laws.proofs.Ranges.{all_below}
use Rattle.views.proofs.Calm.{idle_of}
use Rattle.views.proofs.tables.Tables.is_idle.Goals as goal

pub returns : goal.returns
returns c =
    let t = c.args.self.now in
    idle_of (all_below t.model.now.machine.sizes.states (λ s. eqb (get_or t.next.now (s * t.model.now.machine.sizes.actions + c.args.a) 0) s) c.all.ensures.ran refl (λ x b q k. search (rules, tests)))
