-- The rounds of one box, over the tables.
-- Assumes nothing.
use mathlib.Core.Path.{◌≡◌, refl, sym, ◌∙◌, subst}
use mathlib.Core.Logic.{◌≢◌, ⊎_elim}
use mathlib.Core.Bool.{Bool, true, false}
use mathlib.Core.List.{List}
use Prim.Native.Nat.{ℕ, ◌+◌, ◌<◌}
use native.Mathlib.Omega.{arith}
use borrow.Author.Tests.{eq-eqb, eqb-true}
use lib.Dec.{eqb}
use Rattle.laws.specs.Choice.{brings}
use Rattle.laws.specs.Range.{every}
use Rattle.laws.proofs.Tests.{brings_at, brings_of}
use Rattle.laws.proofs.Range.{every_at, every_of}
use Rattle.noninterference.specs.Rounds.{sees_alike, alike}
use lib.ListN.{replicate}
use Rattle.model.specs.Limits.{STATES}
use Rattle.model.specs.Denoted.{machine_of}
use Rattle.model.specs.declared.Machine.{Machine}
use Rattle.reach.specs.Set.{flag_at}
use Rattle.needs.specs.Tables.{step_in, entry, seen_in, Steps, Fitting}
use Rattle.needs.specs.Classes.{lowest, agrees, unchanged, Below, Led}
use Rattle.needs.specs.Again.{Befores, Touched, Quiet}
use Rattle.needs.specs.Rounds.{Known, AtRound, Refined}
use Rattle.needs.proofs.Classes.{lowest_le, lowest_least, inside_next, round_first, round_below, round_more, round_last}
use Rattle.needs.proofs.Agreeing.{led_below}
use Rattle.needs.specs.Laws.{agrees_of}
use Rattle.needs.proofs.Looking.{one_of, quiet_none, quiet_next}
use Rattle.needs.proofs.Owning.{above_none}

pub steps : {m : Machine} {next outputs : List ℕ} → Fitting m next outputs → Steps m.sizes.states m.sizes.actions next
steps g = record {
  states_most = g.good.machine.sizes.states_most;
  actions_most = g.good.machine.sizes.actions_most;
  next_long = g.next_long;
  next_in = g.good.next_in;
}

-- after k rounds c has the class numbers, and unmarked states of one class agree
pub record Refining (m : Machine) (next outputs : List ℕ) (inside before : List Bool) (u : ℕ) (c : List ℕ) (marks : List Bool) (k : ℕ) : Type 0 where
  pub fits : Fitting m next outputs
  pub known : Known (machine_of m next outputs) (flag_at inside)
  pub at_round : AtRound (machine_of m next outputs) (flag_at inside) u (entry c) k
  pub below : Below m.sizes.states c
  pub quiet : Quiet m.sizes.states m.sizes.actions next c marks
  pub befores : Befores m.sizes.states m.sizes.actions next before

module _ {m : Machine} {next outputs : List ℕ} {inside before : List Bool} {u : ℕ} where
  pub refining_first : {c : List ℕ} → Fitting m next outputs → Known (machine_of m next outputs) (flag_at inside) →
      Befores m.sizes.states m.sizes.actions next before → Led (flag_at inside) (seen_in m.owners outputs m.sizes.actions u) c m.sizes.states →
      Refining m next outputs inside before u c (replicate STATES true) 0
  unfolding alike sees_alike
  refining_first {c} g w b h = record {
    fits = g;
    known = w;
    at_round = round_first (machine_of m next outputs) (flag_at inside) w u (entry c) (λ s i. h.each s (w.small s i));
    below = led_below _ _ h;
    quiet = quiet_none g.good.machine.sizes.states_most;
    befores = b;
  }

  module _ {c : List ℕ} {marks : List Bool} {k : ℕ} (h : Refining m next outputs inside before u c marks k) where
    -- one class is never split
    pub refining_one : every m.sizes.states (λ s. brings (flag_at inside s) (eqb (entry c s) 0)) ≡ true → Refined (machine_of m next outputs) (flag_at inside) u (entry c) k
    unfolding unchanged
    refining_one e =
        round_last (machine_of m next outputs) (flag_at inside) h.known u k (entry c) h.at_round (entry c) first
        (every_of m.sizes.states _ (λ s l. brings_of (flag_at inside s) (λ i. eq-eqb (entry c s) (entry c s) refl)))
      where
        zero_at : (s : ℕ) → flag_at inside s ≡ true → entry c s ≡ 0
        zero_at s i = eqb-true _ _ (brings_at (flag_at inside s) _ (every_at m.sizes.states _ e s (h.known.small s i)) i)

        first : (s : ℕ) → flag_at inside s ≡ true → entry c s ≡ lowest (flag_at inside) (agrees (step_in m.sizes.actions next) m.sizes.actions (entry c)) s
        first s i =
            let le = lowest_le (flag_at inside) (agrees (step_in m.sizes.actions next) m.sizes.actions (entry c)) s in
            let z = zero_at s i in
            ⊎_elim
            (λ (q : s ≡ 0). omega arith)
            (λ (q : s ≢ 0). let start = subst (λ x. flag_at inside x ≡ true) z (h.at_round.classes.member s i) in
            let same = agrees_of (step_in m.sizes.actions next) m.sizes.actions (entry c) 0 s (zero_at 0 start ∙ sym z)
            (λ a l. zero_at _ (inside_next (machine_of m next outputs) (flag_at inside) h.known u 0 a start l)
            ∙ sym (zero_at _ (inside_next (machine_of m next outputs) (flag_at inside) h.known u s a i l))) in
            let low = lowest_least (flag_at inside) (agrees (step_in m.sizes.actions next) m.sizes.actions (entry c)) s 0 (above_none q) start same in omega arith)
            (one_of s 0 (eqb s 0) refl)

    pub refining_most : k < m.sizes.states
    refining_most = round_below (machine_of m next outputs) (flag_at inside) h.known u k (entry c) h.at_round

    module _ {d : List ℕ} (hd : Led (flag_at inside) (agrees (step_in m.sizes.actions next) m.sizes.actions (entry c)) d m.sizes.states) where
      pub refining_more : {marks' : List Bool} → unchanged m.sizes.states (flag_at inside) (entry c) (entry d) ≡ false →
          Touched m.sizes.states m.sizes.actions next c d marks' → Refining m next outputs inside before u d marks' (k + 1)
      refining_more e t = record {
        fits = h.fits;
        known = h.known;
        at_round = round_more (machine_of m next outputs) (flag_at inside) h.known u k (entry c) h.at_round (entry d) (λ s i. hd.each s (h.known.small s i)) e;
        below = led_below _ _ hd;
        quiet = quiet_next (flag_at inside) hd t;
        befores = h.befores;
      }

      pub refining_last : unchanged m.sizes.states (flag_at inside) (entry c) (entry d) ≡ true →
          Refined (machine_of m next outputs) (flag_at inside) u (entry c) k
      refining_last e =
          round_last (machine_of m next outputs) (flag_at inside) h.known u k (entry c) h.at_round (entry d) (λ s i. hd.each s (h.known.small s i)) e
