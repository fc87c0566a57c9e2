-- The demands leave nothing open: whoever meets them answers every input as our calls do.
-- Assumes nothing.
use Rattle.model.specs.declared.refusal.Refusal as named
use Rattle.model.specs.declared.refusal.Refusal.TheVariants as why
use mathlib.Core.Path.{◌≡◌, refl, sym, ap, ap₂, ◌∙◌}
use mathlib.Core.Logic.{◌↔◌}
use mathlib.Core.Bool.{Bool, true}
use mathlib.Core.List.{List}
use mathlib.Core.Option.{some}
use Prim.Native.Nat.{ℕ, ◌*◌, ◌<◌}
use lib.Dec.{ltb}
use lib.ListN.{length, get_or, take-append-drop}
use borrow.Author.Tests.{eqb-true, eq-eqb, ltb-true, ltb-false}
use lib.Seq.{ext_get_or}
use Rattle.laws.proofs.Tests.{by_test, not_both}
use Rattle.noninterference.specs.Machine as noninterference
use Rattle.noninterference.specs.Machine.{Closed}
use Rattle.noninterference.proofs.NeededList.{list_unique}
use Rattle.noninterference.proofs.Place.{first_unique}
use Rattle.noninterference.proofs.Reached.{reach}
use Rattle.noninterference.specs.Reached.{reached}
use Rattle.noninterference.proofs.Rounds.{depth_unique}
use Rattle.model.specs.Limits.{BOXES, NEXT_ENTRIES, VERDICT_BYTES}
use Rattle.model.specs.Denoted.{machine_of}
use Rattle.model.specs.declared.Machine.{Machine}
use Rattle.model.specs.declared.Model.{Model}
use Rattle.model.proofs.Denoted.{closed}
use Rattle.model.proofs.Good.{model_table_good, table_good, model_good}
use Rattle.sheet.specs.Reading.{Reading, model, refusal, sheet_text}
use Rattle.sheet.proofs.Table.{refused_means}
use Rattle.std.specs.Prelude.{Result, Ok, Err}
use Rattle.model.specs.declared.refusal.Refused.{Refused}
use Rattle.views.specs.Judgement as judging
use Rattle.views.specs.Judgement.{Judgement, answer}
use Rattle.needs.specs.Demand.{Demand}
use Rattle.needs.specs.Listed.{padded}
use Rattle.needs.specs.declared.Needs.{Needs}
use Rattle.model.specs.declared.Kind.{Kind}
use Rattle.demands.specs.Answers.{Answers, Alike}
use Rattle.demands.specs.Calls.{Bytes, Table, Calls}
use Rattle.demands.specs.Demands.{Demand1, Demand2, Demand3}
use Rattle.demands.specs.Ours.{ours}
use Rattle.demands.specs.Refusals.{ThreeTables, GoodModel, Refusal, ten, twelve, thirteen, TextRefusal, text, LabelRefusal}
use Rattle.demands.proofs.Answers.{answers}
use Rattle.demands.proofs.Demands.{demand_1, demand_2, demand_3}
use Rattle.demands.proofs.Refusing.{judge_lengths, needed_lengths, question_test, no_question}

-- what has a test holds or does not
decided : {X : Type 0} {b : Bool} {P : Type 0} → (b ≡ true) ↔ P → (P → X) → (¬ P → X) → X
decided {b = b} t there not_there = by_test b (λ e. there (t.0 e)) (λ e. not_there (λ p. not_both (t.1 p) e))

-- something is refused, or all is good
sorted : {X : Type 0} {f g h : Bool} {lengths good asked : Type 0} → (f ≡ true) ↔ lengths → (g ≡ true) ↔ good → (h ≡ true) ↔ asked →
    ((n : named.Refusal) (l : ℕ) → Refusal lengths good asked n l → X) → (lengths → good → asked → X) → X
sorted lengths_test good_test asked_test bad fine =
    decided lengths_test
    (λ a. decided good_test (λ b. decided asked_test (fine a b) (λ k. bad why.Range 0 (thirteen a b k))) (λ k. bad why.Rules 0 (twelve a k)))
    (λ k. bad why.Length 0 (ten k))

-- a judgement accepts or does not
accepted_or : {X : Type 0} (j : Judgement) → (j ≡ judging.accepted → X) → (¬ (j ≡ judging.accepted) → X) → X
accepted_or (Ok _) is is-not = is refl
accepted_or (Err f) is is-not = is-not (λ e. cc)

-- ---- two answers that demand 3 allows for one machine
abbrev Found3 : noninterference.Machine → Result Needs Refused × Table → Type 0
Found3 M x = (needs : Needs) × (x.0 ≡ Ok needs) × (length needs.depths ≡ BOXES) × Demand M needs.count needs.reach needs.depths x.1

whole_list : (M : noninterference.Machine) (x : Result Needs Refused × Table) (f : Found3 M x) → x.1 ≡ padded f.3.arrows
unfolding padded
whole_list M x f = let w = f.3 in sym (take-append-drop (2 * f.0.count) x.1) ∙ rw (w.on_list, w.rest_zero, w.counted)

module _ (M : noninterference.Machine) (c : Closed M (λ s. s < M.states)) (x y : Result Needs Refused × Table) (f : Found3 M x) (g : Found3 M y) where
  same_arrows : f.3.arrows ≡ g.3.arrows
  same_arrows = list_unique M _ _ f.3.needed g.3.needed

  same_count : f.0.count ≡ g.0.count
  same_count = f.3.counted ∙ ap length same_arrows ∙ sym g.3.counted

  same_reach : f.0.reach ≡ g.0.reach
  same_reach = f.3.reachable (reached M) (reach M c) ∙ sym (g.3.reachable (reached M) (reach M c))

  same_depth : (u : ℕ) → get_or f.0.depths u 0 ≡ get_or g.0.depths u 0
  same_depth u =
      by_test (ltb u M.boxes)
      (λ e. let l = ltb-true _ _ e in depth_unique M u _ _ (f.3.depth u l) (g.3.depth u l))
      (λ e. let l = ltb-false _ _ e in f.3.beyond u l ∙ sym (g.3.beyond u l))

  same_depths : f.0.depths ≡ g.0.depths
  same_depths = ext_get_or 0 f.0.depths g.0.depths (f.2 ∙ sym g.2) (λ i p. same_depth i)

  same_found : x ≡ y
  same_found =
      ap₂ pair (f.1 ∙ ap Ok same_needs ∙ sym g.1) (whole_list M x f ∙ ap padded same_arrows ∙ sym (whole_list M y g))
    where
      needs : ℕ → ℕ → List ℕ → Needs
      needs count reach depths = record { count = count; reach = reach; depths = depths }

      same_needs : f.0 ≡ g.0
      same_needs =
          ap (λ k. needs k f.0.reach f.0.depths) same_count ∙ ap (λ k. needs g.0.count k f.0.depths) same_reach
          ∙ ap (needs g.0.count g.0.reach) same_depths

      pair : Result Needs Refused → Table → Result Needs Refused × Table
      pair n l = (n, l)

module _ (calls : Calls) (d1 : Demand1 calls) (d2 : Demand2 calls.judge) (d3 : Demand3 calls.needed) (a : Answers calls) where
  read_only : (t : Bytes) (next outputs views : Table) → calls.read t next outputs views ≡ ours.read t next outputs views
  read_only t next outputs views =
      decided (judge_lengths next outputs views) (λ h. as_read h (sheet_text t) refl) (λ k. as_refused why.Length 0 (ten k))
    where
      as_refused : (n : named.Refusal) (l : ℕ) → TextRefusal (ThreeTables next outputs views) t n l → calls.read t next outputs views ≡ ours.read t next outputs views
      as_refused n l r =
          d1.read_then t next outputs views n l ((d1.read t next outputs views n l).0 r)
          ∙ sym (demand_1.read_then t next outputs views n l ((demand_1.read t next outputs views n l).0 r))

      as_read : ThreeTables next outputs views → (rd : Reading) → sheet_text t ≡ rd → calls.read t next outputs views ≡ ours.read t next outputs views
      as_read h (model z p) e =
          a.read t next outputs views z p h e ∙ sym (answers.read t next outputs views z p h e)
      as_read h (refusal n l) e = as_refused n l (text h (refused_means t n l e))

  label_only : (t : Bytes) (position : ℕ) → calls.label t position ≡ ours.label t position
  label_only t position = go (sheet_text t) refl
    where
      as_refused : (n : named.Refusal) (l : ℕ) → LabelRefusal t position n l → calls.label t position ≡ ours.label t position
      as_refused n l r = (d1.label t position n l).0 r ∙ sym ((demand_1.label t position n l).0 r)

      go : (rd : Reading) → sheet_text t ≡ rd → calls.label t position ≡ ours.label t position
      go (model z p) e =
          by_test (ltb position z.boxes)
          (λ b. let h = ltb-true _ _ b in a.label t position z p e h ∙ sym (answers.label t position z p e h))
          (λ b. as_refused why.Range 0 (thirteen z p e (ltb-false _ _ b)))
      go (refusal n l) e = as_refused n l (text (refused_means t n l e))

  judge_only : (m : Model) (next outputs views : Table) → calls.judge m next outputs views ≡ ours.judge m next outputs views
  judge_only m next outputs views =
      sorted (judge_lengths next outputs views) (model_table_good m next) no_question
      (λ n l r. (d1.judge m next outputs views n l).0 r ∙ sym ((demand_1.judge m next outputs views n l).0 r)) (λ h g u. on_good h g)
    where
      on_good : ThreeTables next outputs views → GoodModel m next → calls.judge m next outputs views ≡ ours.judge m next outputs views
      on_good h g =
          let mine = demand_2.accepted m next outputs views h g in
          let theirs = d2.accepted m next outputs views h g in
          accepted_or (ours.judge m next outputs views)
          (λ e. theirs.1 (mine.0 e) ∙ sym e)
          (λ k. let p = demand_2.broken m next outputs views h g k in
          let q = d2.broken m next outputs views h g (λ e. k (mine.1 (theirs.0 e))) in
          q.1 ∙ ap (λ x. answer (some x)) (first_unique q.0 p.0 q.2 p.2) ∙ sym p.1)

  needed_only : (m : Machine) (next outputs list : Table) → calls.needed m next outputs list ≡ ours.needed m next outputs list
  needed_only m next outputs list =
      sorted (needed_lengths next outputs list) (table_good m next) no_question
      (λ n l r. d1.needed_then m next outputs list n l ((d1.needed m next outputs list n l).0 r)
      ∙ sym (demand_1.needed_then m next outputs list n l ((demand_1.needed m next outputs list n l).0 r)))
      (λ h g u. same_found (machine_of m next outputs) (closed m next outputs g) (calls.needed m next outputs list) (ours.needed m next outputs list)
      (d3.found m next outputs list h g) (demand_3.found m next outputs list h g))

  purged_only : (m : Model) (kind : Kind) (position : ℕ) (run kept : Bytes) → calls.purged m kind position run kept ≡ ours.purged m kind position run kept
  purged_only m kind position run kept =
      sorted (eqb-true (length kept) (length run), eq-eqb (length kept) (length run)) (model_good m) (question_test m kind position run kept)
      (λ n l r. d1.purged_then m kind position run kept n l ((d1.purged m kind position run kept n l).0 r)
      ∙ sym (demand_1.purged_then m kind position run kept n l ((demand_1.purged m kind position run kept n l).0 r)))
      (λ h g q. a.purged m kind position run kept h g q ∙ sym (answers.purged m kind position run kept h g q))

  reached_only : (m : Machine) (next : Table) → calls.reached m next ≡ ours.reached m next
  reached_only m next =
      sorted (eqb-true (length next) NEXT_ENTRIES, eq-eqb (length next) NEXT_ENTRIES) (table_good m next) no_question
      (λ n l r. (d1.reached m next n l).0 r ∙ sym ((demand_1.reached m next n l).0 r))
      (λ h g u. a.reached m next h g ∙ sym (answers.reached m next h g))

  verdict_only : (t buffer : Bytes) → calls.verdict t buffer ≡ ours.verdict t buffer
  verdict_only t buffer =
      decided (eqb-true (length buffer) VERDICT_BYTES, eq-eqb (length buffer) VERDICT_BYTES)
      (λ h. a.verdict t buffer h ∙ sym (answers.verdict t buffer h)) (λ k. d1.verdict t buffer k ∙ sym (demand_1.verdict t buffer k))

  pub alike : Alike calls ours
  alike = record {
    read = read_only;
    label = label_only;
    judge = judge_only;
    needed = needed_only;
    purged = purged_only;
    reached = reached_only;
    verdict = verdict_only;
  }
