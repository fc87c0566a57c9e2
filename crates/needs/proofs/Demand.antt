-- Demand 3 holds of the contract's definition.
-- Assumes nothing.
use mathlib.Core.Path.{◌≡◌, refl, sym, ◌∙◌, subst}
use mathlib.Core.Logic.{◌↔◌}
use mathlib.Core.Bool.{true}
use mathlib.Core.List.{List}
use Prim.Native.Nat.{ℕ, ◌*◌, ◌<◌, ◌≤◌}
use native.Mathlib.Omega.{arith}
use borrow.Author.Tests.{lt-ltb, le-ltb, ltb-true, ltb-false}
use lib.Dec.{ltb}
use lib.ListN.{length, get_or}
use lib.Seq.{take_at, drop_at}
use Rattle.laws.specs.Choice.{choose}
use Rattle.laws.specs.Range.{count}
use Rattle.laws.proofs.Tests.{by_test}
use Rattle.laws.proofs.Cells.{beyond}
use Rattle.noninterference.specs.Machine as noninterference
use Rattle.noninterference.specs.Machine.{Closed, Owned}
use Rattle.noninterference.specs.Purge.{Policy, plain}
use Rattle.noninterference.specs.Secure.{Secure, Reflexive}
use Rattle.noninterference.specs.Needed.{Covers, arrow, Member, NeededList}
use Rattle.noninterference.specs.Depth.{Depth}
use Rattle.noninterference.specs.Reached.{reached}
use Rattle.noninterference.specs.Rounds.{depth_of, needed_list}
use Rattle.noninterference.proofs.Needed.{secure↔covers}
use Rattle.noninterference.proofs.NeededList.{needed_list_lem, list_length, no_self, once}
use Rattle.noninterference.proofs.Reached.{reach, reach_count}
use Rattle.noninterference.proofs.Rounds.{depth_computed, depth_below, depth_unique, depth_silent}
use Rattle.model.specs.Limits.{BOXES}
use Rattle.model.specs.Denoted.{machine_of}
use Rattle.model.specs.Refused.{machine_table_fits}
use Rattle.model.specs.Good.{GoodTable}
use Rattle.model.specs.declared.Machine.{Machine}
use Rattle.model.proofs.Good.{table_good}
use Rattle.model.proofs.Denoted.{closed, owned}
use Rattle.laws.proofs.Tables.{tabulate_at, length_tabulate}
use Rattle.std.specs.Prelude.{Ok}
use Rattle.needs.specs.Listed.{flat, padded}
use Rattle.needs.specs.Answered.{depths_of, found_in, lengths_fit, needed_of, list_of}
use Rattle.needs.specs.Demand.{Demand}
use Rattle.needs.proofs.Listing.{flat_length}
use Rattle.needs.proofs.Answering.{needed_found, list_found}

module _ (M : noninterference.Machine) (c : Closed M (λ s. s < M.states)) (w : Owned M) (most : M.boxes ≤ BOXES) where
  pub depth_at : (u : ℕ) → u < M.boxes → get_or (depths_of M) u 0 ≡ depth_of M u
  unfolding choose
  depth_at u l = tabulate_at BOXES _ u 0 (omega arith) ∙ rw (lt-ltb _ _ l)

  depth_beyond : (u : ℕ) → M.boxes ≤ u → get_or (depths_of M) u 0 ≡ 0
  unfolding choose
  depth_beyond u l =
      by_test (ltb u BOXES)
      (λ e. tabulate_at BOXES (λ u. choose (ltb u M.boxes) (depth_of M u) 0) u 0 (ltb-true _ _ e) ∙ rw (le-ltb _ _ l))
      (λ e. sym (beyond (depths_of M) u 0 (rw (length_tabulate BOXES (λ u. choose (ltb u M.boxes) (depth_of M u) 0)) (ltb-false _ _ e))))

  is_depth : (u : ℕ) → u < M.boxes → Depth M u (get_or (depths_of M) u 0)
  is_depth u l = subst (Depth M u) (sym (depth_at u l)) (depth_computed M u (reached M) (reach M c))

  -- a policy with the pairs on the list has every needed arrow
  list_secure : (interferes : Policy) → Reflexive M interferes →
      Secure plain M interferes ↔ ((v u : ℕ) → Member (arrow v u) (needed_list M) → interferes v u ≡ true)
  list_secure interferes self = (
    λ s v u m. let n = l.only v u m in (h.0 s).covers v u n.0 n.1 n.2,
    λ k. h.1 (record { covers = λ v u hv hu n. k v u (l.each v u hv hu n) }),
  )
    where
      h : Secure plain M interferes ↔ Covers M interferes
      h = secure↔covers M interferes w self

      l : NeededList M (needed_list M)
      l = needed_list_lem M c

  pub demand : Demand M (length (needed_list M)) (count M.states (reached M)) (depths_of M) (padded (needed_list M))
  unfolding padded
  demand = record {
    arrows = needed_list M;
    counted = refl;
    on_list = take_at (flat (needed_list M)) _ (2 * length (needed_list M)) (flat_length (needed_list M));
    rest_zero = drop_at (flat (needed_list M)) _ (2 * length (needed_list M)) (flat_length (needed_list M));
    secure = list_secure;
    needed = needed_list_lem M c;
    few = list_length M c (needed_list M) (needed_list_lem M c);
    no_self = no_self M (needed_list M) (needed_list_lem M c);
    once = once M (needed_list M) (needed_list_lem M c);
    depth = is_depth;
    below_reach = λ u l. depth_below M u (reached M) (reach M c) (get_or (depths_of M) u 0) (is_depth u l);
    silent = λ u l h. depth_unique M u (get_or (depths_of M) u 0) 0 (is_depth u l) (depth_silent M u h);
    beyond = depth_beyond;
    reachable = λ inside r. reach_count M (reached M) inside (reach M c) r;
  }

-- the answer and the list of a call that is not refused
pub demand_3 : (m : Machine) (next outputs list : List ℕ) → lengths_fit next outputs list ≡ true → machine_table_fits m next ≡ true →
    (needed_of m next outputs list ≡ Ok (found_in (machine_of m next outputs)))
    × Demand (machine_of m next outputs) (length (needed_list (machine_of m next outputs))) (count m.sizes.states (reached (machine_of m next outputs)))
    (depths_of (machine_of m next outputs)) (list_of m next outputs list)
demand_3 m next outputs list e f = (
  needed_found m next outputs list e f,
  subst (Demand (machine_of m next outputs) (length (needed_list (machine_of m next outputs))) (count m.sizes.states (reached (machine_of m next outputs))) (depths_of (machine_of m next outputs)))
      (sym (list_found m next outputs list e f))
      (demand (machine_of m next outputs) (closed m next outputs g) (owned m next outputs g.machine) g.machine.sizes.boxes_most),
)
  where
    g : GoodTable m next
    g = (table_good m next).0 f
