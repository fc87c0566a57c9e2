-- `views::tables::Row::first_like` meets its contract. Assumes nothing.
use Rattle.std.proofs.Common.{◌≡◌, rules, tests}
use Rattle.std.proofs.lemmas.Iterator.{first_from_Range}
use Rattle.views.specs.Guards.{class_at}
use Rattle.views.proofs.Lows.{least_of}
use Rattle.views.proofs.tables.Row.first_like.Goals as goal

pub returns : goal.returns
returns c =
    let r = c.args.self.now in
    rw c.unwrap_or.ensures
    (least_of c.find.result (first_from_Range _ _ _ _ (λ k. class_at r.states r.views.now r.u k ≡ class_at r.states r.views.now r.u c.args.s)
    (λ k. class_at r.states r.views.now r.u k ≡ class_at r.states r.views.now r.u c.args.s → ⊥) c.find.ensures.ran (λ x q k. search (rules, tests)) (λ x q k. search (rules, tests))))
