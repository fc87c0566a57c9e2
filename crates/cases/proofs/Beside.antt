-- True statements beside the cases: ordinary step consistency would break P1, and comparing only the next output would lose an arrow.
-- Assumes nothing.
use mathlib.Core.Path.{◌≡◌, refl}
use mathlib.Core.Bool.{false}
use mathlib.Core.Logic.{inl}
use mathlib.Core.Option.{some}
use Prim.Native.Nat.{ℕ, ◌<◌}
use borrow.Author.Tests.{eq-eqb}
use Rattle.laws.specs.Choice.{both, either, without, choose, when, or_else, brings}
use Rattle.laws.specs.Search.{first_of}
use Rattle.laws.specs.Range as range
use Rattle.laws.proofs.Tests.{without_of, by_test, not_both, both_of}
use Rattle.laws.proofs.Range.{some_of}
use Rattle.noninterference.specs.Machine.{Reachable}
use Rattle.noninterference.specs.Purge.{plain}
use Rattle.noninterference.specs.Place as places
use Rattle.noninterference.specs.Place.{FirstBroken, OfStep}
use Rattle.noninterference.specs.Judged.{first_step, tears, alike_too}
use Rattle.noninterference.specs.Same.{Seen}
use Rattle.noninterference.specs.Needed.{Needed}
use Rattle.noninterference.specs.Rounds.{alike, sees_alike, needed_in}
use Rattle.noninterference.proofs.Judged as noninterference
use Rattle.noninterference.proofs.Rounds.{seen_of}
use Rattle.register.specs.Tables.{column, by_state, by_box}
use Rattle.views.specs.Judgement.{every_state}
use Rattle.cases.specs.Cases.{p1, p2}
use Rattle.cases.specs.Meets.{machine, state, policy, view, id_at}
use Rattle.cases.proofs.Needs.{inside}
use Rattle.cases.proofs.Cases.{register, cases_sound, cases_hold}

-- ---- ordinary step consistency at P1: 40, 2, 0, 1
ordinary : first_step plain (machine p1) every_state (view p1) ≡ some (places.step 3 2 0 1)
unfolding first_step tears alike_too first_of when or_else both without by_state by_box column range.first choose
ordinary = refl

pub ordinary_breaks : (id_at p1 3 ≡ 40) × FirstBroken plain (machine p1) (state p1) (policy p1) (view p1) OfStep (places.step 3 2 0 1)
ordinary_breaks = (refl, noninterference.step_first plain (machine p1) every_state (state p1) (λ s. (λ l. (l, refl), λ p. p.0)) (policy p1) (view p1) _ ordinary)

-- ---- U's arrow to X is needed, and no action of U changes what X sees at once
at_once : needed_in (machine p2) (inside register) 0 0 3 ≡ false
unfolding needed_in alike sees_alike both either without brings range.some range.every by_state column
at_once = refl

pub unseen_at_once : (s a : ℕ) → Reachable (machine p2) s → a < 4 → (machine p2).owner a ≡ 0 → Seen (machine p2) 3 s ((machine p2).step s a)
unfolding needed_in alike
unseen_at_once s a h la e =
    let w = cases_sound.1.0.1 in
    seen_of (machine p2) 3 s ((machine p2).step s a)
    (by_test (alike (machine p2) 3 0 s ((machine p2).step s a)) (λ q. q)
    (λ q. not_both
    (both_of refl (some_of _ _ s (w.small s h) (both_of (w.all s h) (some_of _ _ a la (without_of (eq-eqb _ _ e) q)))))
    at_once))

pub needed_all_the_same : Needed (machine p2) 0 3
unfolding range.first choose
needed_all_the_same = (cases_hold.1.0.0.0.only 0 3 (inl refl)).2
