-- `views::tables::Tables::note_kept` meets its contract. Assumes nothing.
use mathlib.Core.Path.{refl}
use native.Mathlib.Omega.{arith}
use Rattle.laws.proofs.Tests.{not_both, told}
use Rattle.views.proofs.Calm.{kept_more}
use Rattle.views.proofs.tables.Tables.note_kept.Goals as goal

pub returns-then-was_kept : goal.returns-then-was_kept
returns-then-was_kept c =
    let z = c.args.self.now.good.machine.sizes in
    record { still_kept = c.requires.kept; keeps = λ e. c.requires.kept.noted _ _ (omega (arith, z.actions_most)) (told _ _ c.was_kept.ensures c.if-was_kept.true) }

pub returns-then-keeps : goal.returns-then-keeps
returns-then-keeps c =
    let h = c.keeps.ensures c.if-keeps.true in
    let z = c.args.self.now.good.machine.sizes in
    record { still_kept = kept_more c.requires.kept (omega (arith, z.boxes_most)) (omega (arith, z.actions_most)) h; keeps = λ e. h }

pub returns : goal.returns
returns c = record { still_kept = c.requires.kept; keeps = λ e. not_both e refl }
