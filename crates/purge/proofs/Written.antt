-- What is marked and gathered is the purged run.
-- Assumes nothing.
use mathlib.Core.Path.{◌≡◌, refl, ◌∙◌, ap}
use mathlib.Core.Bool.{Bool, true}
use mathlib.Core.List.{List, [], ◌∷◌, ◌++◌}
use Prim.Native.Nat.{ℕ, suc, ◌-◌, ◌<◌}
use native.Mathlib.Omega.{arith}
use lib.ListN.{length, get_or, replicate}
use borrow.Author.Tests.{ltb-true}
use Rattle.laws.specs.Lists.{All}
use Rattle.laws.proofs.Range.{every_at}
use Rattle.model.specs.Arrows.{leads}
use Rattle.model.specs.Limits.{BOXES}
use Rattle.model.specs.Denoted.{policy_of, owner_at}
use Rattle.model.specs.Good.{GoodMachine, GoodDrawing}
use Rattle.model.specs.declared.Model.{Model}
use Rattle.model.proofs.Good.{model_good}
use Rattle.laws.specs.Sets.{pack}
use Rattle.purge.specs.Sets.{touches, marked, present}
use Rattle.purge.specs.Purged.{names_actions, Askable, Added, kept_of, purge_result, written}
use Rattle.model.specs.declared.Kind.{Kind}
use Rattle.model.specs.declared.Kind.TheVariants.{Plain, Intransitive}
use Rattle.std.specs.Prelude.{Ok}
use Rattle.purge.proofs.Kept.{kept_plain, kept_intransitive}

marked_length : (keep : ℕ → List ℕ → Bool) (r : List ℕ) → length (marked keep r) ≡ length r
unfolding marked
marked_length keep [] = refl
marked_length keep (a ∷ r) = ap suc (marked_length keep r)

all_of : (A : ℕ → Type 0) (r : List ℕ) → ((i : ℕ) → i < length r → A (get_or r i 0)) → All A r
all_of A [] h = tt
all_of A (a ∷ r) h = (h 0 (omega arith), all_of A r (λ i l. h (suc i) (omega arith)))

pub named_run : (actions : ℕ) (run : List ℕ) → names_actions actions run ≡ true → All (λ a. a < actions) run
unfolding names_actions
named_run actions run e = all_of (λ a. a < actions) run (λ i l. ltb-true _ _ (every_at (length run) _ e i l))

pub box_small : (m : Model) (position : ℕ) (run : List ℕ) → Askable m position run → position < BOXES
box_small m position run h = let p = h.position_in in let g = ((model_good m).0 h.good).0.sizes.boxes_most in omega arith

module _ (m : Model) (position : ℕ) (run into : List ℕ) (target : ℕ) (h : Askable m position run)
    (aimed : target ≡ pack (λ v. leads m.arrows v position) 0 BOXES) where
  good : GoodMachine m.machine × GoodDrawing m
  good = (model_good m).0 h.good

  owner_small : (a : ℕ) → a < m.machine.sizes.actions → owner_at m.machine a < BOXES
  owner_small a l = let p = good.0.owner_in a l in let q = good.0.sizes.boxes_most in omega arith

  kept_is : (kind : Kind) → Added kind m.arrows into →
      present (marked (touches m.machine.owners into target) run) ≡ kept_of m kind position run
  unfolding kept_of
  kept_is Plain none =
      kept_plain m.machine.owners (policy_of m) m.machine.sizes.actions position target good.0.sizes.actions_most owner_small aimed
      into none run (named_run _ run h.named)
  kept_is Intransitive sets =
      kept_intransitive m.machine.owners (policy_of m) m.machine.sizes.actions position target good.0.sizes.actions_most owner_small aimed
      into sets (λ a l. good.1.self _ (good.0.owner_in a l)) run (named_run _ run h.named)

  pub kept_written : (kind : Kind) (marks : List ℕ) {count : ℕ} {kept : List ℕ} → Added kind m.arrows into →
      marks ≡ marked (touches m.machine.owners into target) run → count ≡ length (present marks) →
      kept ≡ present marks ++ replicate (length marks - count) 255 →
      purge_result (Ok count) kept ≡ written (kept_of m kind position run) (length run)
  kept_written kind marks {count} {kept} added hm hc hk =
      let p : present marks ≡ kept_of m kind position run = ap present hm ∙ kept_is kind added in
      let l : length marks ≡ length run = ap length hm ∙ marked_length _ run in
      let c : count ≡ length (kept_of m kind position run) = hc ∙ ap length p in
      let k : kept ≡ kept_of m kind position run ++ replicate (length run - length (kept_of m kind position run)) 255 =
      hk ∙ ap (λ x. x ++ replicate (length marks - count) 255) p
      ∙ ap (λ n. kept_of m kind position run ++ replicate (n - count) 255) l
      ∙ ap (λ n. kept_of m kind position run ++ replicate (length run - n) 255) c in
      cc
