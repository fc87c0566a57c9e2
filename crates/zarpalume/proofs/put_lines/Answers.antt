-- `zarpalume::put_lines` meets its contract. Assumes nothing.
use native.Mathlib.Omega.{arith}
use Rattle.text.proofs.Buffer.{lent, same_as, written_length}
use Rattle.zarpalume.specs.Lines.{views_line}
use Rattle.zarpalume.proofs.Joined.{joined}
use Rattle.zarpalume.proofs.put_lines.Goals as goal

pub returns : goal.returns
returns c =
    let room = c.requires.0 in
    let i = c.put_views-a.ensures.1 in
    let j = c.put_needs.ensures.1 in
    let k = c.put_depths.ensures.1 in
    let v = lent c.put_views-a.ensures.0 (omega (arith, i, c.put_views-a.auto.tail, room)) c.put_needs.ensures.0 in
    let vl = written_length v (omega (arith, i, j, room)) in
    let u = lent v (omega (arith, i, j, room, vl)) c.put_depths.ensures.0 in
    let ul = written_length u (omega (arith, i, j, k, room)) in
    let a = c.args in (
      same_as (joined a.model.now.ids a.list.now a.needs.now.depths (views_line a.model.now.ids a.model.now.machine.owners a.judged) a.model.now.machine.sizes.boxes a.needs.now)
          (lent u (omega (arith, i, j, k, room, ul)) c.put_reach.ensures.0),
      omega (arith, i, j, k, c.put_reach.ensures.1),
    )
