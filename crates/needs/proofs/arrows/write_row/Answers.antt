-- `needs::arrows::write_row` meets its contract.
use Rattle.std.proofs.Common.{sym, ◌∙◌, arith}
use Rattle.needs.proofs.Listing.{row_none, row_more, row_skip, row_all, wanted_room}
use Rattle.needs.proofs.arrows.write_row.Goals.{then-wanted, else-wanted}
use Rattle.needs.proofs.arrows.write_row.Goals as goal

pub targets-init : goal.targets-init
targets-init c = row_none _ _ _ c.requires.written

pub put-requires : goal.put-requires
put-requires c = let i = c.targets.invariant in (i.long, wanted_room _ c.requires.boxes_bound.0 c.requires.boxes_bound.1 c.targets-test.true (sym c.wanted.ensures ∙ c.if-wanted.true) i, omega arith, omega arith)

pub overflow_add-n : goal.overflow_add-n
overflow_add-n c = omega (arith, wanted_room _ c.requires.boxes_bound.0 c.requires.boxes_bound.1 c.targets-test.true (sym c.wanted.ensures ∙ c.if-wanted.true) c.targets.invariant)

pub targets-preserved : goal.targets-preserved
targets-preserved c =
    let i = c.targets.invariant in
    let b = c.requires.boxes_bound in
    elim c.if-wanted.branch [
      | then-wanted w ↦ let t = sym c.wanted.ensures ∙ w.if-wanted.true in rw (w.list-is, w.n-is) (row_more _ _ _ t (wanted_room _ b.0 b.1 c.targets-test.true t i) i w.put.ensures)
      | else-wanted w ↦ rw (w.list-is, w.n-is) (row_skip _ _ _ (sym c.wanted.ensures ∙ w.if-wanted.false) i)
    ]

pub returns : goal.returns
returns c = row_all _ _ _ c.targets.invariant (omega arith)
