-- `views::tables::Tables::settled` meets its contract. Assumes nothing.
use mathlib.Core.Path.{sym, ◌∙◌}
use native.Mathlib.Omega.{arith}
use Rattle.laws.proofs.Tests.{told}
use Rattle.views.proofs.Calm.{keeps_calm, strong_calm, alone_owner}
use Rattle.views.proofs.tables.Tables.settled.Goals as goal
use Rattle.views.proofs.tables.Tables.settled.Goals.{then-was_kept, else-was_kept, then-alones-o, else-alones-o}

pub returns-then-strong : goal.returns-then-strong
returns-then-strong c = λ e.
    let z = c.args.self.now.good.machine.sizes in
    elim c.if-alones-o.branch [
      | then-alones-o w ↦ elim c.if-was_kept.branch [
        | then-was_kept v ↦ keeps_calm _ (c.requires.kept.noted _ _ (omega (arith, z.actions_most)) (told _ _ c.was_kept.ensures v.if-was_kept.true))
        | else-was_kept v ↦ alone_owner _ _ _ _ _ _ _ (c.requires.alones.alone _ (sym v.value-is ∙ w.if-alones-o.true))
      ]
      | else-alones-o w ↦ strong_calm _ _ _ _ _ _ _ (told _ _ w.strong.ensures (sym w.value-is ∙ e))
    ]
