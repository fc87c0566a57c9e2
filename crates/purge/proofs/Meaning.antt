-- What the purged runs mean: an action is kept exactly where its box is in the sources of the run that starts with it; and where the
-- policy is transitive both kinds are one (Lemma 7).
-- Assumes nothing.
use mathlib.Core.Path.{◌≡◌, refl, sym}
use mathlib.Core.Bool.{Bool}
use mathlib.Core.List.{List, [], ◌∷◌}
use Prim.Native.Nat.{ℕ, zero, suc, ◌<◌}
use native.Mathlib.Omega.{arith}
use native.Mathlib.Nat.{le_of_suc-le-suc}
use lib.ListN.{length, get_or, drop}
use Rattle.laws.specs.Choice.{choose}
use Rattle.laws.specs.Lists.{elem}
use Rattle.noninterference.specs.Purge.{intransitive, sources, keeps}
use Rattle.noninterference.specs.Secure.{Transitive}
use Rattle.noninterference.proofs.Runs.{owners_in}
use Rattle.noninterference.proofs.Sources.{purges_agree}
use Rattle.model.specs.Denoted.{owner_at, machine_of, policy_of}
use Rattle.model.specs.declared.Model.{Model}
use Rattle.model.proofs.Denoted.{owned}
use Rattle.model.proofs.Good.{model_good}
use Rattle.purge.specs.Sets.{marked, present}
use Rattle.purge.specs.Purged.{Askable, kept_of}
use Rattle.model.specs.declared.Kind.TheVariants.{Plain, Intransitive}
use Rattle.purge.proofs.Kept.{present_marked}
use Rattle.purge.proofs.Written.{named_run}

-- each place of a marked run: its action where the test keeps it in front of the rest, and 255 where not
marked_at : (keep : ℕ → List ℕ → Bool) (run : List ℕ) (i : ℕ) → i < length run →
    get_or (marked keep run) i 0 ≡ choose (keep (get_or run i 0) (drop (suc i) run)) (get_or run i 0) 255
unfolding marked
marked_at keep [] i l = absurd (omega arith)
marked_at keep (a ∷ r) zero l = refl
marked_at keep (a ∷ r) (suc i) l = marked_at keep r i (le_of_suc-le-suc l)

module _ (m : Model) (position : ℕ) (run : List ℕ) (h : Askable m position run) where
  abbrev marks : List ℕ
  marks = marked (keeps intransitive (owner_at m.machine) (policy_of m) position) run

  -- the kept run is what is not 255 in a list that has, at each place, the run's action where its box is in those sources, and else 255
  pub kept_by_sources : (kept_of m Intransitive position run ≡ present marks)
      × ((i : ℕ) → i < length run → get_or marks i 0
      ≡ choose (elem (owner_at m.machine (get_or run i 0)) (sources (owner_at m.machine) (policy_of m) position (get_or run i 0 ∷ drop (suc i) run)))
      (get_or run i 0) 255)
  unfolding kept_of keeps
  kept_by_sources = (
    sym (present_marked _ m.machine.sizes.actions ((model_good m).0 h.good).0.sizes.actions_most run (named_run _ run h.named)),
    marked_at (keeps intransitive (owner_at m.machine) (policy_of m) position) run,
  )

  pub kinds_agree : Transitive m.machine.sizes.boxes (policy_of m) → kept_of m Intransitive position run ≡ kept_of m Plain position run
  unfolding kept_of
  kinds_agree trans =
      let good = (model_good m).0 h.good in
      purges_agree (owner_at m.machine) (policy_of m) position m.machine.sizes.boxes trans h.position_in (good.1.self position h.position_in) run
      (owners_in (machine_of m.machine [] []) (owned m.machine [] [] good.0) run (named_run _ run h.named))
