-- `edits::call::change` meets its contract. Assumes nothing.
use Rattle.std.proofs.Common.{◌≡◌, ◌≤◌, sym, ◌∙◌, arith}
use Rattle.model.specs.Limits.{EDITS}
use Rattle.edits.specs.History.{past}
use Rattle.edits.proofs.Gave.{plan_room}
use Rattle.edits.proofs.Called.{few, doable}
use Rattle.edits.proofs.call.change.Goals as goal

pub invariant_of-past : goal.invariant_of-past
invariant_of-past c = record { few = few _ _ _ c.requires }

pub make-requires : goal.make-requires
make-requires c = doable _ _ _ _ (sym c.plan_of.ensures ∙ c.in_ok-e.was)

pub push-requires : goal.push-requires
push-requires c =
    let full : c.args.count.now ≡ EDITS → ⊥ = plan_room c.args.list.now (past c.args.count.now c.args.words.now) _ _ (sym c.plan_of.ensures ∙ c.in_ok-e.was) in
    let most : c.args.count.now ≤ EDITS = few _ _ _ c.requires in
    omega arith
