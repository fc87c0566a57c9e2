-- `needs::rounds::round` meets its contract.
use Rattle.std.proofs.Common.{refl, sym, ◌∙◌, ap, arith, ℕ}
use Rattle.std.proofs.lemmas.List.{length-replicate}
use Rattle.model.specs.Limits.{STATES}
use Rattle.needs.specs.Tables.{step_in}
use Rattle.needs.specs.Again.{kept_number}
use Rattle.needs.specs.Starts.{SLOTS}
use Rattle.needs.proofs.Agreeing.{missed_start, missed_all, led_none, led_more}
use Rattle.needs.proofs.Looking.{leads_none, leads_keep, lead_before, lead_next}
use Rattle.needs.proofs.Moving.{kept_known, kept_first, moved_none, moved_kept, same_none, same_more, same_kept, same_lead}
use Rattle.needs.proofs.Starting.{begun_none, begun_old, begun_follows, below_small}
use Rattle.needs.proofs.rounds.round.Goals as goal

pub states-init : goal.states-init
states-init c = (
  led_none _ _ refl,
  leads_none,
  begun_none _ _ _ _ (length-replicate {A = ℕ} SLOTS STATES),
  moved_none c.args.moved.now.places,
  same_none,
)

pub states-preserved-then-old-s : goal.states-preserved-then-old-s
states-preserved-then-old-s c =
    let w = c.args.classes.now in
    let i = c.states.invariant in
    let l = c.states-test.true in
    let m = w.walk.steps.states_most in
    let z = c.if-old-s.true in
    let e = missed_all _ _ _ (missed_start (step_in w.walk.actions w.walk.next.now) w.walk.actions w.below l c.from-old.ensures) (omega (arith, z)) in
    let d = led_more _ _ i.0 (omega (arith, m, l)) e in (
      d,
      leads_keep i.1,
      begun_old _ _ _ _ i.2 (sym z ∙ c.from-old.ensures),
      moved_kept i.3 (omega (arith, m, l, i.0.long)) _ (kept_first w.below i.1 m l ∙ ap (kept_number _) (sym z ∙ c.from-old.ensures)),
      same_kept i.0 i.4 d (omega (arith, m, l)) (λ t. sym c.from-old.ensures ∙ z),
    )

pub states-preserved-then-number-lt-STATES : goal.states-preserved-then-number-lt-STATES
states-preserved-then-number-lt-STATES c =
    let w = c.args.classes.now in
    let i = c.states.invariant in
    let l = c.states-test.true in
    let m = w.walk.steps.states_most in
    let z = c.if-number-lt-STATES.true in
    let u = c.known-number.ensures.unmarked z in
    let k = c.known-number.ensures.value u in
    let p = below_small w.walk.steps w.below l c.from-old.ensures in
    let e = lead_next c.requires i.1 l p c.from-old.ensures u k z in
    let d = led_more _ _ i.0 (omega (arith, m, l)) e in (
      d,
      leads_keep i.1,
      begun_follows _ _ _ _ i.2 e (lead_before i.1 p k z),
      moved_kept i.3 (omega (arith, m, l, i.0.long)) _ (kept_known _ _ k z ∙ ap (kept_number _) c.from-old.ensures),
      same_kept i.0 i.4 d (omega (arith, m, l)) (λ t. sym c.from-old.ensures ∙ same_lead i.0 i.1 i.4 p k z t),
    )

pub states-preserved : goal.states-preserved
states-preserved c =
    let i = c.states.invariant in
    let e = c.place.ensures in
    (e.led, e.leads, e.begun, e.moved_to, same_more i.0 i.4 e.led c.still-same.ensures)
