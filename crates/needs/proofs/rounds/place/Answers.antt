-- `needs::rounds::place` meets its contract.
use Rattle.std.proofs.Common.{arith}
use Rattle.needs.specs.Tables.{step_in}
use Rattle.needs.proofs.Agreeing.{missed_start}
use Rattle.needs.proofs.Moving.{longer_same, moved_put}
use Rattle.needs.proofs.Starting.{below_small}
use Rattle.needs.proofs.rounds.place.Goals as goal

pub first_alike-first-requires-clause-missed : goal.first_alike-first-requires-clause-missed
first_alike-first-requires-clause-missed c = let w = c.args.classes.now in missed_start (step_in w.walk.actions w.walk.next.now) w.walk.actions w.below c.requires.s_bound c.from-old.ensures

pub returns-then-first-old-clause-moved_to : goal.returns-then-first-old-clause-moved_to
returns-then-first-old-clause-moved_to c =
    let w = c.args.classes.now in
    let m = c.requires.s_bound in
    let s = w.walk.steps.states_most in
    let l = below_small w.walk.steps w.below m c.from-old.ensures in
    let k = c.speaks.ensures c.if-speaks.true in
    moved_put c.requires.moved_to (omega (arith, s, m, c.requires.led.long)) _ w.below m c.from-old.ensures (omega (arith, l, c.requires.leads.long)) (c.requires.unknown k.0) (omega (arith, c.first_alike-first.ensures.most, s, m)) (longer_same c.requires.moved_to.places) (λ z. absurd (z c.if-first-old.true))

pub returns-then-speaks-clause-moved_to : goal.returns-then-speaks-clause-moved_to
returns-then-speaks-clause-moved_to c =
    let w = c.args.classes.now in
    let m = c.requires.s_bound in
    let s = w.walk.steps.states_most in
    let l = below_small w.walk.steps w.below m c.from-old.ensures in
    let k = c.speaks.ensures c.if-speaks.true in
    moved_put c.requires.moved_to (omega (arith, s, m, c.requires.led.long)) _ w.below m c.from-old.ensures (omega (arith, l, c.requires.leads.long)) (c.requires.unknown k.0) (omega (arith, c.first_alike-first.ensures.most, s, m)) c.note_stayed.ensures.longer (λ z. c.note_stayed.ensures.stayed)
