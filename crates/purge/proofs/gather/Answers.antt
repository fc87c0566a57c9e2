-- `purge::gather` meets its contract. Assumes nothing.
use native.Mathlib.Omega.{arith}
use lib.ListN.{length-set}
use borrow.Author.Rules.{rules}
use Rattle.purge.proofs.Gathered.{gathered_start, gathered_length, gathered_below, gathered_kept, gathered_dropped, gathered_end}
use Rattle.purge.proofs.gather.Goals as goal

pub actions-init : goal.actions-init
actions-init c = gathered_start _

pub bounds-kept-i : goal.bounds-kept-i
bounds-kept-i c = let h = gathered_length _ _ _ _ c.actions.invariant in omega arith

pub actions-preserved-then-action : goal.actions-preserved-then-action
actions-preserved-then-action c = gathered_dropped _ _ _ _ c.actions.invariant (search rules) c.if-action.true

pub bounds-kept-i-in-actions : goal.bounds-kept-i-in-actions
bounds-kept-i-in-actions c = let h = gathered_length _ _ _ _ c.actions.invariant in omega arith

pub bounds-kept-count : goal.bounds-kept-count
bounds-kept-count c =
    let a = c.actions in
    let h = gathered_length _ _ _ _ a.invariant in
    let l = gathered_below _ _ _ _ a.invariant in
    rw length-set (omega arith)

pub overflow_add-count : goal.overflow_add-count
overflow_add-count c = let l = gathered_below _ _ _ _ c.actions.invariant in omega arith

pub actions-preserved : goal.actions-preserved
actions-preserved c = gathered_kept _ _ _ _ c.actions.invariant (search rules) c.if-action.false

pub shape_of-kept : goal.shape_of-kept
shape_of-kept c = gathered_length _ _ _ _ c.actions.invariant

pub returns : goal.returns
returns c = let p = gathered_end _ _ _ _ c.actions.invariant (search rules) in record { count = p.0; gathered = p.1 }
