-- `purge::mark` meets its contract: what stands from i on is marked. Assumes nothing.
use mathlib.Core.Path.{sym, ◌∙◌}
use native.Mathlib.Omega.{arith}
use lib.ListN.{length-set}
use borrow.Author.Rules.{rules}
use Rattle.purge.proofs.Marks.{mark_empty, mark_kept, mark_dropped}
use Rattle.purge.proofs.mark.Goals as goal

pub run-init : goal.run-init
run-init c = let p = mark_empty _ _ _ c.args.run.now c.args.kept.now c.requires in record { long = c.requires; set = p.0; marks = p.1 }

pub run-preserved-then-contains : goal.run-preserved-then-contains
run-preserved-then-contains c =
    let i = c.run.invariant in
    let p = mark_kept _ _ _ c.args.run.now c.run.kept (omega arith) i.long (omega arith) i.set i.marks
    (rw (← c.from.ensures, ← c.owner-owner.ensures) (sym c.contains.ensures ∙ c.if-contains.true))
    (rw (← c.from.ensures, ← c.owner-owner.ensures) (search rules)) in
    record { long = rw length-set i.long; set = p.0; marks = p.1 }

pub run-preserved : goal.run-preserved
run-preserved c =
    let i = c.run.invariant in
    let p = mark_dropped _ _ _ c.args.run.now c.run.kept (omega arith) i.long (omega arith) i.set i.marks
    (rw (← c.from.ensures, ← c.owner-owner.ensures) (sym c.contains.ensures ∙ c.if-contains.false)) in
    record { long = rw length-set i.long; set = p.0; marks = p.1 }
