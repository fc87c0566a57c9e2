-- `reach::Worklist::look` meets its contract. Assumes nothing.
use mathlib.Core.Path.{refl, subst}
use Prim.Native.Nat.{◌+◌}
use native.Mathlib.Omega.{arith}
use Rattle.reach.specs.Explored.{Explored}
use Rattle.reach.proofs.Exploring.{entered_most, looking, looked_at}
use Rattle.reach.proofs.Worklist.look.Goals as goal

pub offset_bounds-self-done : goal.offset_bounds-self-done
offset_bounds-self-done c = let q = c.requires in omega (arith, entered_most q.good_table q.explored, q.left)

pub bounds-self-done : goal.bounds-self-done
bounds-self-done c = let q = c.requires in omega (arith, entered_most q.good_table q.explored, q.left)

pub actions-init : goal.actions-init
actions-init c = record { looking = looking c.requires.good_table c.requires.explored c.requires.left refl; done = refl }

pub returns-clause-explored : goal.returns-clause-explored
returns-clause-explored c =
    let i = c.actions.invariant in
    subst (λ d. Explored c.args.machine.now c.args.next.now c.actions.self.flags c.actions.self.work (d + 1) c.actions.self.entered) i.done
    (looked_at c.requires.good_table i.looking c.actions-test.false)
