-- How a worklist goes on, and that it ends with the reachable states.
-- Assumes nothing.
use mathlib.Core.Path.{◌≡◌, refl, sym, ◌∙◌, ap, subst}
use mathlib.Core.Logic.{◌⊎◌, inl, inr, ⊎_elim, ◌≢◌}
use mathlib.Core.Bool.{Bool, true, false}
use mathlib.Core.List.{List}
use Prim.Native.Nat.{ℕ, ◌+◌, ◌*◌, ◌<◌, ◌≤◌}
use native.Mathlib.Nat.{not-suc-le-zero, le_trans}
use native.Mathlib.Omega.{arith}
use borrow.Author.Count.{below_more}
use borrow.Author.Tests.{eqb-true, eqb-false, ltb-true, ltb-false}
use lib.Dec.{eqb, ltb}
use lib.ListN.{length, get_or, set, length-set, replicate, length-replicate, get_or-replicate, get_or-eq_default}
use lib.Seq.{get_or-set_same, get_or-set_other}
use Rattle.laws.specs.Range.{count}
use Rattle.laws.proofs.Tests.{by_test, not_both}
use Rattle.laws.proofs.Count.{count_le, count_less, count_same}
use Rattle.noninterference.specs.Machine.{Reachable, Closed}
use Rattle.noninterference.proofs.Runs.{reachable_closed, reachable_in}
use Rattle.model.specs.Limits.{STATES, ACTIONS, NEXT_ENTRIES}
use Rattle.model.specs.Denoted.{next_at}
use Rattle.model.specs.Good.{GoodTable}
use Rattle.model.specs.declared.Machine.{Machine}
use Rattle.laws.proofs.Cells.{cell, row}
use Rattle.reach.specs.Set.{flag_at}
use Rattle.reach.specs.Explored.{moving, Entered, Explored, Looking, Complete}
use Rattle.laws.proofs.Tables.{set_true, set_stays, count_set, count_none}

one_of : (a b : ℕ) (t : Bool) → eqb a b ≡ t → (a ≡ b) ⊎ (a ≢ b)
one_of a b true e = inl (eqb-true a b e)
one_of a b false e = inr (eqb-false a b e)

module _ {m : Machine} {next : List ℕ} (g : GoodTable m next) where
  most : m.sizes.states ≤ STATES
  most = g.machine.sizes.states_most

  module _ {flags : List Bool} {work : List ℕ} {done n : ℕ} (w : Explored m next flags work done n) where
    pub entered_most : n ≤ STATES
    entered_most = let a : count m.sizes.states (flag_at flags) ≤ m.sizes.states = count_le m.sizes.states (flag_at flags) in omega (arith, w.number, most)

    pub place_small : (i : ℕ) → i < n → get_or work i 0 < m.sizes.states
    place_small i l = w.small (get_or work i 0) (w.flagged i l)

    pub looking : {s : ℕ} → done < n → s ≡ get_or work done 0 → Looking m next flags work done n s 0
    looking l e = record { so_far = w; is = e; below = l; each = λ b k. absurd (not-suc-le-zero k) }

  module _ {flags : List Bool} {work : List ℕ} {done n s a : ℕ} (w : Looking m next flags work done n s a) where
    pub looking_small : s < m.sizes.states
    looking_small = rw w.is (place_small w.so_far done w.below)

    pub next_cell : a < m.sizes.actions → s * m.sizes.actions + a < NEXT_ENTRIES
    next_cell l = cell STATES ACTIONS looking_small g.machine.sizes.states_most l g.machine.sizes.actions_most

    pub next_row : s * m.sizes.actions ≤ NEXT_ENTRIES
    next_row = row STATES ACTIONS looking_small g.machine.sizes.states_most g.machine.sizes.actions_most

    module _ {t : ℕ} (l : a < m.sizes.actions) (e : t ≡ next_at m next s a) where
      pub next_small : t < m.sizes.states
      next_small = rw e (g.next_in s a looking_small l)

      pub known : flag_at flags t ≡ true → Looking m next flags work done n s (a + 1)
      known h = record {
        so_far = w.so_far;
        is = w.is;
        below = w.below;
        each = below_more (λ b. flag_at flags (next_at m next s b) ≡ true) a w.each (subst (λ x. flag_at flags x ≡ true) e h);
      }

      module _ (h : flag_at flags t ≡ false) where
        pub room : n < m.sizes.states
        room = let a : count m.sizes.states (flag_at flags) < m.sizes.states = count_less m.sizes.states (flag_at flags) t next_small h in omega (arith, w.so_far.number)

        fits : t < length flags
        fits = omega (arith, next_small, most, w.so_far.flags_long)

        other : (i : ℕ) → i < n → get_or (set work n t) i 0 ≡ get_or work i 0
        other i k = get_or-set_other work n i t 0 (λ q. absurd (omega arith))

        here : get_or (set work n t) n 0 ≡ t
        here = get_or-set_same work n t 0 (omega (arith, room, most, w.so_far.work_long))

        stays : (s : ℕ) → flag_at flags s ≡ true → flag_at (set flags t true) s ≡ true
        stays s = set_stays flags t s fits

        set_cases : (s : ℕ) → flag_at (set flags t true) s ≡ true → (s ≡ t) ⊎ (flag_at flags s ≡ true)
        set_cases s q =
            ⊎_elim (λ (z : s ≡ t). inl z) (λ (z : s ≢ t). inr (sym (get_or-set_other flags t s true false z) ∙ q)) (one_of s t (eqb s t) refl)

        reaches : Reachable (moving m next) t
        reaches =
            subst (Reachable (moving m next)) (sym e)
            ((reachable_closed (moving m next)).next s a
            (w.so_far.right s (subst (λ x. flag_at flags x ≡ true) (sym w.is) (w.so_far.flagged done w.below))) l)

        stands : (s : ℕ) → Entered work n s → Entered (set work n t) (n + 1) s
        stands s p = record { at = p.at; below = omega (arith, p.below); is = other p.at p.below ∙ p.is }

        grown : Explored m next (set flags t true) (set work n t) done (n + 1)
        grown = record {
          flags_long = length-set flags t true ∙ w.so_far.flags_long;
          work_long = length-set work n t ∙ w.so_far.work_long;
          number = count_set flags t fits h m.sizes.states next_small ∙ ap (λ x. x + 1) w.so_far.number;
          begun = stays m.sizes.start w.so_far.begun;
          small = λ s q. ⊎_elim (λ z. rw z next_small) (w.so_far.small s) (set_cases s q);
          right = λ s q. ⊎_elim (λ z. subst (Reachable (moving m next)) (sym z) reaches) (w.so_far.right s) (set_cases s q);
          flagged = below_more (λ i. flag_at (set flags t true) (get_or (set work n t) i 0) ≡ true) n
              (λ i k. subst (λ x. flag_at (set flags t true) x ≡ true) (sym (other i k)) (stays (get_or work i 0) (w.so_far.flagged i k)))
              (subst (λ x. flag_at (set flags t true) x ≡ true) (sym here) (set_true flags t fits));
          place = λ s q. ⊎_elim
              (λ (z : s ≡ t). record { at = n; below = omega arith; is = here ∙ sym z })
              (λ (z : flag_at flags s ≡ true). stands s (w.so_far.place s z)) (set_cases s q);
          looked = λ i b p q.
              subst (λ x. flag_at (set flags t true) (next_at m next x b) ≡ true) (sym (other i (omega (arith, w.below))))
              (stays (next_at m next (get_or work i 0) b) (w.so_far.looked i b p q));
        }

        pub entered : Looking m next (set flags t true) (set work n t) done (n + 1) s (a + 1)
        entered = record {
          so_far = grown;
          is = w.is ∙ sym (other done w.below);
          below = omega (arith, w.below);
          each = below_more (λ b. flag_at (set flags t true) (next_at m next s b) ≡ true) a (λ b k. stays (next_at m next s b) (w.each b k))
              (subst (λ x. flag_at (set flags t true) x ≡ true) e (set_true flags t fits));
        }

    pub looked_at : m.sizes.actions ≤ a → Explored m next flags work (done + 1) n
    looked_at l = record {
      flags_long = w.so_far.flags_long;
      work_long = w.so_far.work_long;
      number = w.so_far.number;
      begun = w.so_far.begun;
      small = w.so_far.small;
      right = w.so_far.right;
      flagged = w.so_far.flagged;
      place = w.so_far.place;
      looked = λ i b p q. below_more (λ i. flag_at flags (next_at m next (get_or work i 0) b) ≡ true) done (λ i k. w.so_far.looked i b k q)
          (subst (λ x. flag_at flags (next_at m next x b) ≡ true) w.is (w.each b (omega arith))) i p;
    }

  -- the worklist is done
  pub complete : {flags : List Bool} {work : List ℕ} {done n : ℕ} → Explored m next flags work done n → n ≤ done → Complete m next flags
  complete {flags} {work} {done} {n} w l = record {
    long = w.flags_long;
    inside = w.small;
    reach = record {
      right = λ s k e. w.right s e;
      all = reachable_in (moving m next) (λ s. flag_at flags s ≡ true) closed;
      small = λ s h. w.small s (reachable_in (moving m next) (λ s. flag_at flags s ≡ true) closed s h);
    };
  }
    where
      closed : Closed (moving m next) (λ s. flag_at flags s ≡ true)
      closed = record {
        first = w.begun;
        next = λ s a h ha.
            let p = w.place s h in
            subst (λ x. flag_at flags (next_at m next x a) ≡ true) p.is (w.looked p.at a (omega (arith, p.below)) ha);
      }

  -- only the start is entered
  pub explored_start : {work : List ℕ} → work ≡ replicate STATES m.sizes.start → Explored m next (set (replicate STATES false) m.sizes.start true) work 0 1
  explored_start {work} e = record {
    flags_long = length-set (replicate STATES false) m.sizes.start true ∙ length-replicate {A = Bool} STATES false;
    work_long = ap length e ∙ length-replicate {A = ℕ} STATES m.sizes.start;
    number = count_set (replicate STATES false) m.sizes.start fits (empty m.sizes.start) m.sizes.states g.machine.sizes.start_in
        ∙ ap (λ x. x + 1) (count_same m.sizes.states (flag_at (replicate STATES false)) (λ _. false) (λ i _. empty i) ∙ count_none m.sizes.states);
    begun = set_true (replicate STATES false) m.sizes.start fits;
    small = λ s q. rw (only s q) g.machine.sizes.start_in;
    right = λ s q. subst (Reachable (moving m next)) (sym (only s q)) (reachable_closed (moving m next)).first;
    flagged = λ i l. let z : i ≡ 0 = omega arith in
        subst (λ x. flag_at (set (replicate STATES false) m.sizes.start true) x ≡ true) (sym (ap (λ x. get_or work x 0) z ∙ first))
        (set_true (replicate STATES false) m.sizes.start fits);
    place = λ s q. record { at = 0; below = omega arith; is = first ∙ sym (only s q) };
    looked = λ i a l. absurd (not-suc-le-zero l);
  }
    where
      first : get_or work 0 0 ≡ m.sizes.start
      first = ap (λ (xs : List ℕ). get_or xs 0 0) e ∙ get_or-replicate {A = ℕ} STATES 0 m.sizes.start 0 (omega arith)

      fits : m.sizes.start < length (replicate {A = Bool} STATES false)
      fits = rw (length-replicate {A = Bool} STATES false) (le_trans g.machine.sizes.start_in most)

      empty : (s : ℕ) → flag_at (replicate STATES false) s ≡ false
      empty s = by_test (ltb s STATES)
          (λ q. get_or-replicate {A = Bool} STATES s false false (ltb-true s STATES q))
          (λ q. get_or-eq_default (replicate STATES false) false {n = s} (rw (length-replicate {A = Bool} STATES false) (ltb-false s STATES q)))

      only : (s : ℕ) → flag_at (set (replicate STATES false) m.sizes.start true) s ≡ true → s ≡ m.sizes.start
      only s q =
          ⊎_elim (λ (z : s ≡ m.sizes.start). z)
          (λ (z : s ≢ m.sizes.start). not_both (sym (get_or-set_other (replicate STATES false) m.sizes.start s true false z) ∙ q) (empty s))
          (one_of s m.sizes.start (eqb s m.sizes.start) refl)
