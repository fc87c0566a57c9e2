-- The phases, walked from line to line. Assumes nothing.
use Rattle.model.specs.declared.refusal.Refusal.{Refusal}
use Rattle.std.specs.Prelude.{Ok, Err, Some}
use Prim.Native.Nat.{ℕ, zero, suc, ◌+◌, ◌*◌, ◌/◌, ◌%◌, ◌<◌}
use mathlib.Core.Path.{◌≡◌, refl, sym, ap, ◌∙◌}
use mathlib.Core.List.{List, [], ◌∷◌}
use mathlib.Core.Bool.{Bool, true, false, cond, ◌||◌}
use native.Mathlib.Omega.{arith}
use borrow.Author.Tests.{lt-ltb, le-ltb}
use lib.ListN.{length, get_or, set, take, replicate}
use Rattle.model.specs.Limits.{BOXES, ACTIONS}
use Rattle.model.specs.declared.Sizes.{Sizes}
use Rattle.text.specs.Lines.{same}
use Rattle.model.specs.Arrows.{drawn}
use Rattle.sheet.specs.Records as due
use Rattle.sheet.specs.declared.Arrows.TheVariants as flow
use Rattle.sheet.specs.Words as words
use Rattle.sheet.specs.Numbers.{Record, on_record, word}
use Rattle.sheet.specs.Records.{box_line, act_line, go_line, view_line, arrow_line, flow_line, on_flow}
use Rattle.sheet.specs.Phases.{Got, got, refused, phase, boxes, acts, Steps, steps, goes, flows, views}
use Rattle.sheet.specs.Table.{Row, by_rows}
use Rattle.sheet.specs.Meaning.{Situation, at_flow, at_end, views_from, goes_from, acts_from, boxes_from, is_arrow, after, complete}
use Rattle.sheet.proofs.ByRows.{by_rows_lem, arrow_by_rows}
use Rattle.sheet.proofs.Meant.{refused_at, line_in, walk, on_judged}

-- which of three a line is
module _ (s t : Bool) where
  pick_arrow : s ≡ true → (s || t) ≡ true
  pick_arrow p = rw p

  pick_second : s ≡ false → t ≡ true → (s || t) ≡ true
  pick_second p q = rw (p, q)

  pick_flow : (x y w : List Row) (r v : Record) → s ≡ true → by_rows (cond s x (cond t y w)) (cond (s || t) r v) ≡ by_rows x r
  pick_flow x y w r v p = rw p

  pick_both : (x y w : List Row) (r v : Record) → s ≡ false → t ≡ true → by_rows (cond s x (cond t y w)) (cond (s || t) r v) ≡ by_rows y r
  pick_both x y w r v p q = rw (p, q)

  pick_view : (x y w : List Row) (r v : Record) → s ≡ false → t ≡ false → by_rows (cond s x (cond t y w)) (cond (s || t) r v) ≡ by_rows w v
  pick_view x y w r v p q = rw (p, q)

  pick_after : (x y : Situation) → s ≡ false → t ≡ false → cond (s || t) x y ≡ y
  pick_after x y p q = rw (p, q)

-- where entry k is due, the situation is that of its kind: what it says, and what it leads to
pub record Kind {S : Type 0} (line : ℕ → S → List ℕ → Record) (store : ℕ → S → ℕ → ℕ → ℕ → ℕ → S) (σ : ℕ → S → Situation) (k : ℕ) (s : S) : Type 0 where
  pub due : complete (σ k s) ≡ false
  pub line_is : (l : List ℕ) → line_in (σ k s) l ≡ line k s l
  pub next_is : (l : List ℕ) (a b c d : ℕ) → after (σ k s) l a b c d ≡ σ (suc k) (store k s a b c d)

module _ {S : Type 0} (line : ℕ → S → List ℕ → Record) (store : ℕ → S → ℕ → ℕ → ℕ → ℕ → S) (σ : ℕ → S → Situation) (total : ℕ) (kind : (k : ℕ) (s : S) → k < total → Kind line store σ k s) where
  pub phase_walk : (left k : ℕ) (s : S) (ls : List (List ℕ)) (n : ℕ) → k + left ≡ total → walk (σ k s) ls n ≡ on_judged (phase line store left k s ls n) (λ s ls n. walk (σ total s) ls n)
  unfolding phase walk
  phase_walk zero k s ls n h = let e : k ≡ total = omega arith in rw e
  phase_walk (suc left) k s [] n h = rw (kind k s (omega arith)).due
  phase_walk (suc left) k s (l ∷ ls) n h = rw ((kind k s (omega arith)).line_is l) (go (line k s l) ((kind k s (omega arith)).next_is l) (λ s. phase_walk left (suc k) s ls (suc n) (omega arith)))
    where
      go : (r : Record) → ((a b c d : ℕ) → after (σ k s) l a b c d ≡ σ (suc k) (store k s a b c d))
          → ((s : S) → walk (σ (suc k) s) ls (suc n) ≡ on_judged (phase line store left (suc k) s ls (suc n)) (λ s ls n. walk (σ total s) ls n))
          → on_record r (λ a b c d. walk (after (σ k s) l a b c d) ls (suc n)) (λ e. refused_at e n)
          ≡ on_judged (on_record r (λ a b c d. phase line store left (suc k) (store k s a b c d) ls (suc n)) (λ e. refused e n)) (λ s ls n. walk (σ total s) ls n)
      go (Ok ns) f i = ap (λ (x : Situation). walk x ls (suc n)) (f ns.first ns.second ns.third ns.fourth) ∙ i (store k s ns.first ns.second ns.third ns.fourth)
      go (Err e) f i = refl

module _ (z : Sizes) where
  box_kind : (k : ℕ) (ids : List ℕ) → k < z.boxes → Kind (λ k ids. box_line (take k ids)) (λ k ids id _ _ _. set ids k id) (boxes_from z) k ids
  box_kind k ids h = record {
    due = rw (lt-ltb k z.boxes h);
    line_is = λ l. rw (lt-ltb k z.boxes h) (sym (by_rows_lem due.Box (take k ids) l));
    next_is = λ l a b c d. rw (lt-ltb k z.boxes h);
  }

  pub boxes_walk : (ls : List (List ℕ)) (n : ℕ) → walk (boxes_from z 0 (replicate BOXES 0)) ls n ≡ on_judged (boxes z.boxes ls n) (λ ids ls n. walk (acts_from z (take z.boxes ids) 0) ls n)
  boxes_walk ls n =
      phase_walk (λ k ids. box_line (take k ids)) (λ k ids id _ _ _. set ids k id) (boxes_from z) z.boxes box_kind z.boxes 0 (replicate BOXES 0) ls n (omega arith)
      ∙ rw (le-ltb z.boxes z.boxes (omega arith))

  module _ (ids : List ℕ) where
    act_kind : (k : ℕ) (owners : List ℕ) → k < z.actions → Kind (λ k _. act_line ids) (λ k owners box _ _ _. set owners k box) (λ k _. acts_from z ids k) k owners
    act_kind k owners h = record {
      due = rw (lt-ltb k z.actions h);
      line_is = λ l. rw (lt-ltb k z.actions h) (sym (by_rows_lem due.Act ids l));
      next_is = λ l a b c d. rw (lt-ltb k z.actions h);
    }

    pub acts_walk : (ls : List (List ℕ)) (n : ℕ) → walk (acts_from z ids 0) ls n ≡ on_judged (acts ids z.actions ls n) (λ _ ls n. walk (goes_from z ids 0) ls n)
    acts_walk ls n =
        phase_walk (λ k _. act_line ids) (λ k owners box _ _ _. set owners k box) (λ k _. acts_from z ids k) z.actions act_kind z.actions 0 (replicate ACTIONS 0) ls n (omega arith)
        ∙ rw (le-ltb z.actions z.actions (omega arith))

    go_kind : (k : ℕ) (t : Steps) → k < z.states * z.actions → Kind (λ k _. go_line z.states (k / z.actions) (k % z.actions)) (λ k t _ _ next output. steps (set t.next k next) (set t.outputs k output)) (λ k _. goes_from z ids k) k t
    go_kind k t h = record {
      due = rw (lt-ltb k (z.states * z.actions) h);
      line_is = λ l. rw (lt-ltb k (z.states * z.actions) h) (sym (by_rows_lem (due.Go z.states (k / z.actions) (k % z.actions)) ids l));
      next_is = λ l a b c d. rw (lt-ltb k (z.states * z.actions) h);
    }

    pub goes_walk : (t : Steps) (ls : List (List ℕ)) (n : ℕ) → walk (goes_from z ids 0) ls n ≡ on_judged (goes z.states z.actions t ls n) (λ _ ls n. walk (at_flow z ids) ls n)
    goes_walk t ls n =
        phase_walk (λ k _. go_line z.states (k / z.actions) (k % z.actions)) (λ k t _ _ next output. steps (set t.next k next) (set t.outputs k output)) (λ k _. goes_from z ids k) (z.states * z.actions) go_kind (z.states * z.actions) 0 t ls n (omega arith)
        ∙ rw (le-ltb (z.states * z.actions) (z.states * z.actions) (omega arith))

    view_kind : (k : ℕ) (t : List ℕ) → k < length ids * z.states → Kind (λ k _. view_line (get_or ids (k / z.states) 0) (k % z.states)) (λ k t _ _ class _. set t k class) (λ k _. views_from z ids k) k t
    view_kind k t h = record {
      due = rw (lt-ltb k (length ids * z.states) h);
      line_is = λ l. rw (lt-ltb k (length ids * z.states) h) (sym (by_rows_lem (due.View (get_or ids (k / z.states) 0) (k % z.states)) ids l));
      next_is = λ l a b c d. rw (lt-ltb k (length ids * z.states) h);
    }

    pub views_walk : (t : List ℕ) (ls : List (List ℕ)) (n : ℕ) → walk (views_from z ids 0) ls n ≡ on_judged (views ids z.states t ls n) (λ _ ls n. walk at_end ls n)
    views_walk t ls n =
        phase_walk (λ k _. view_line (get_or ids (k / z.states) 0) (k % z.states)) (λ k t _ _ class _. set t k class) (λ k _. views_from z ids k) (length ids * z.states) view_kind (length ids * z.states) 0 t ls n (omega arith)
        ∙ rw (le-ltb (length ids * z.states) (length ids * z.states) (omega arith))

    -- arrows, as many as there are, and then the first view
    module _ (some : 0 < length ids * z.states) where
      flow_step : (w l : List ℕ) (ls : List (List ℕ)) (n : ℕ) (f : ℕ → ℕ → Got (List ℕ))
          → is_arrow l ≡ true → line_in (at_flow z ids) l ≡ arrow_line w ids l
          → ((v u : ℕ) → walk (at_flow z ids) ls (suc n) ≡ on_judged (f v u) (λ _ ls n. walk (views_from z ids 0) ls n))
          → walk (at_flow z ids) (l ∷ ls) n ≡ on_judged (on_record (arrow_line w ids l) (λ v u _ _. f v u) (λ e. refused e n)) (λ _ ls n. walk (views_from z ids 0) ls n)
      unfolding walk
      flow_step w l ls n f q e i = rw e (go (arrow_line w ids l))
        where
          go : (r : Record) → on_record r (λ a b c d. walk (after (at_flow z ids) l a b c d) ls (suc n)) (λ e. refused_at e n)
              ≡ on_judged (on_record r (λ v u _ _. f v u) (λ e. refused e n)) (λ _ ls n. walk (views_from z ids 0) ls n)
          go (Ok ns) = rw q (i ns.first ns.second)
          go (Err x) = refl

      on_one : (r : Record) (f g : ℕ → ℕ → Got (List ℕ)) (h : Refusal → Got (List ℕ)) (o : Got (List ℕ)) → on_flow (on_record r (λ v u _ _. Ok (Some (flow.One v u))) Err) f g h o ≡ on_record r (λ v u _ _. f v u) h
      on_one (Ok ns) f g h o = refl
      on_one (Err x) f g h o = refl

      on_two : (r : Record) (f g : ℕ → ℕ → Got (List ℕ)) (h : Refusal → Got (List ℕ)) (o : Got (List ℕ)) → on_flow (on_record r (λ v u _ _. Ok (Some (flow.Two v u))) Err) f g h o ≡ on_record r (λ v u _ _. g v u) h
      on_two (Ok ns) f g h o = refl
      on_two (Err x) f g h o = refl

      flows_one : (arrows : List ℕ) (l : List ℕ) (ls : List (List ℕ)) (n : ℕ) → same (word l) words.flow ≡ true → on_record (arrow_line words.flow ids l) (λ v u _ _. flows ids (drawn v u arrows) ls (suc n)) (λ e. refused e n) ≡ flows ids arrows (l ∷ ls) n
      unfolding flows flow_line
      flows_one arrows l ls n p = sym (rw p (on_one (arrow_line words.flow ids l) _ _ _ _))

      flows_two : (arrows : List ℕ) (l : List ℕ) (ls : List (List ℕ)) (n : ℕ) → same (word l) words.flow ≡ false → same (word l) words.both ≡ true → on_record (arrow_line words.both ids l) (λ v u _ _. flows ids (drawn u v (drawn v u arrows)) ls (suc n)) (λ e. refused e n) ≡ flows ids arrows (l ∷ ls) n
      unfolding flows flow_line
      flows_two arrows l ls n p q = sym (rw (p, q) (on_two (arrow_line words.both ids l) _ _ _ _))

      flows_stop : (arrows : List ℕ) (l : List ℕ) (ls : List (List ℕ)) (n : ℕ) → same (word l) words.flow ≡ false → same (word l) words.both ≡ false → got arrows (l ∷ ls) n ≡ flows ids arrows (l ∷ ls) n
      unfolding flows flow_line
      flows_stop arrows l ls n p q = sym (rw (p, q))

      view_step : (l : List ℕ) (ls : List (List ℕ)) (n : ℕ) → same (word l) words.flow ≡ false → same (word l) words.both ≡ false → walk (at_flow z ids) (l ∷ ls) n ≡ walk (views_from z ids 0) (l ∷ ls) n
      unfolding walk
      view_step l ls n p q =
          ap (λ (r : Record). on_record r (λ a b c d. walk (after (at_flow z ids) l a b c d) ls (suc n)) (λ e. refused_at e n)) (pick_view (same (word l) words.flow) (same (word l) words.both) _ _ _ _ _ p q)
          ∙ rw (lt-ltb 0 (length ids * z.states) some, pick_after (same (word l) words.flow) (same (word l) words.both) (at_flow z ids) (views_from z ids 1) p q)

      pub flows_walk : (arrows : List ℕ) (ls : List (List ℕ)) (n : ℕ) → walk (at_flow z ids) ls n ≡ on_judged (flows ids arrows ls n) (λ _ ls n. walk (views_from z ids 0) ls n)
      unfolding flows walk
      flows_walk arrows [] n = rw (lt-ltb 0 (length ids * z.states) some)
      flows_walk arrows (l ∷ ls) n = go (same (word l) words.flow) refl (same (word l) words.both) refl (λ a. flows_walk a ls (suc n))
        where
          go : (s : Bool) → same (word l) words.flow ≡ s → (t : Bool) → same (word l) words.both ≡ t
              → ((a : List ℕ) → walk (at_flow z ids) ls (suc n) ≡ on_judged (flows ids a ls (suc n)) (λ _ ls n. walk (views_from z ids 0) ls n))
              → walk (at_flow z ids) (l ∷ ls) n ≡ on_judged (flows ids arrows (l ∷ ls) n) (λ _ ls n. walk (views_from z ids 0) ls n)
          go true p t q i =
              flow_step words.flow l ls n (λ v u. flows ids (drawn v u arrows) ls (suc n)) (pick_arrow _ _ p) (pick_flow (same (word l) words.flow) (same (word l) words.both) _ _ _ _ _ p ∙ sym (arrow_by_rows words.flow ids l)) (λ v u. i (drawn v u arrows))
              ∙ ap (λ (g : Got (List ℕ)). on_judged g (λ _ ls n. walk (views_from z ids 0) ls n)) (flows_one arrows l ls n p)
          go false p true q i =
              flow_step words.both l ls n (λ v u. flows ids (drawn u v (drawn v u arrows)) ls (suc n)) (pick_second _ _ p q) (pick_both (same (word l) words.flow) (same (word l) words.both) _ _ _ _ _ p q ∙ sym (arrow_by_rows words.both ids l)) (λ v u. i (drawn u v (drawn v u arrows)))
              ∙ ap (λ (g : Got (List ℕ)). on_judged g (λ _ ls n. walk (views_from z ids 0) ls n)) (flows_two arrows l ls n p q)
          go false p false q i =
              view_step l ls n p q
              ∙ ap (λ (g : Got (List ℕ)). on_judged g (λ _ ls n. walk (views_from z ids 0) ls n)) (flows_stop arrows l ls n p q)
