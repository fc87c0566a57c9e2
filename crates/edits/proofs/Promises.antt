-- The promises of `specs/Promises`.
-- Assumes nothing.
use mathlib.Core.Path.{◌≡◌, refl, sym, ap, ◌∙◌, subst}
use mathlib.Core.Bool.{true, false}
use mathlib.Core.List.{List}
use Prim.Native.Nat.{ℕ, ◌+◌, ◌-◌, ◌*◌, ◌<◌, ◌≤◌}
use native.Mathlib.Omega.{arith}
use lib.ListN.{length, get_or, set, replicate, length-replicate}
use lib.Seq.{get_or-set_same}
use lib.Dec.{ltb, eqb}
use borrow.Author.Tests.{eq-eqb, ne_eqb, le-ltb, eqb-true, eqb-false}
use Rattle.laws.specs.Choice.{both, choose}
use Rattle.laws.proofs.Tests.{by_test, not_both, both_true, both_of}
use Rattle.laws.proofs.Chosen.{chosen}
use Rattle.laws.specs.Range.{every, first}
use Rattle.laws.proofs.Range.{some_none}
use Rattle.laws.proofs.Tables.{zero_at}
use Rattle.model.specs.Limits.{BOXES, EDITS, EDIT_WORDS}
use Rattle.edits.specs.Records.{blank, at, boxes, place}
use Rattle.edits.specs.History.{History, past, FIELDS, none, entry, ending, push, keep, newest, rest, fresh, deleted, deleted_by}
use Rattle.edits.specs.Allowed.{good_at, allowed}
use Rattle.edits.specs.Moved.{without_box}
use Rattle.edits.specs.Plan.{Plan, added, deletion, plan}
use Rattle.edits.specs.Done.{new_box, done, undone}
use Rattle.edits.specs.Fits.{fits}
use Rattle.edits.specs.Gives.{Gives}
use Rattle.edits.specs.Edited.{Edited, accepted, planned, undo, answered, fitting, edited}
use Rattle.edits.specs.Promises.{Built, nothing, more, Changed, begun, next, after, UndoExact, UndoAll, UndoAny, Unique, OnlyOne, FitsExactly, UndoFinds, UndoRefuses, NotAgain, RoomAgain, RefusedSame, DropKeeps, StaysAllowed}
use Rattle.edits.specs.declared.BoxRecord.{BoxRecord}
use Rattle.edits.specs.declared.Entry.{Entry}
use Rattle.edits.specs.declared.Change.{Change}
use Rattle.edits.specs.declared.Change.TheVariants.{Add, Delete}
use Rattle.edits.specs.declared.Request.{Request}
use Rattle.edits.specs.declared.Request.TheVariants.{Make, Undo, Drop, Unknown}
use Rattle.std.specs.Prelude.{Ok, Err}
use Rattle.model.specs.Refusal.{number_of}
use Rattle.model.specs.declared.refusal.Refusal.{Refusal}
use Rattle.model.specs.declared.refusal.Refusal.TheVariants.{Text, Record, Fields, Number, Size, Order, SameId, UnknownId, Label, Length, Ended, Rules, Range, UsedId, NoRoom, NothingToUndo, LongHistory, Arrow}
use Rattle.edits.proofs.Words.{entry_before, ending_long, words_behind, words_kept, kept_same, ending_twice}
use Rattle.edits.proofs.Past.{push_new, entry_same, deleted_same}
use Rattle.edits.proofs.Fine.{Sound, sound, sound_allowed, listed_boxes, listed_live}
use Rattle.edits.proofs.Found.{boxes_most, place_live, known}
use Rattle.edits.proofs.Gave.{Gave, plan_gave, plan_room, done_long, back}
use Rattle.edits.proofs.Listed.{listed_without}
use Rattle.edits.proofs.Stays.{stays}
use Rattle.edits.proofs.Fits.{fits_done, fits_gives, gives_fits, gives_undone}

-- a refusal's number is not 0
number_some : (r : Refusal) → number_of r ≡ 0 → ⊥
number_some Text e = omega arith
number_some Record e = omega arith
number_some Fields e = omega arith
number_some Number e = omega arith
number_some Size e = omega arith
number_some Order e = omega arith
number_some SameId e = omega arith
number_some UnknownId e = omega arith
number_some Label e = omega arith
number_some Length e = omega arith
number_some Ended e = omega arith
number_some Rules e = omega arith
number_some Range e = omega arith
number_some UsedId e = omega arith
number_some NoRoom e = omega arith
number_some NothingToUndo e = omega arith
number_some LongHistory e = omega arith
number_some Arrow e = omega arith

-- ---- a refused edit changes nothing
abbrev Unless : List BoxRecord → History → Edited → Type 0
Unless l h x = (x.number ≡ 0 → ⊥) → (x.list ≡ l) × (x.history ≡ h)

answered_unless : (l : List BoxRecord) (h : History) (q : Request) → Unless l h (answered l h q)
unfolding planned undo
answered_unless l h (Make c) = go (plan l h c)
  where
    go : (p : Plan) → Unless l h (planned l h p)
    go (Ok e) n = absurd (n refl)
    go (Err r) _ = (refl, refl)
answered_unless l h Undo =
    chosen (Unless l h) (eqb h.count 0) _ _ (λ _ _. (refl, refl)) (λ _.
    chosen (Unless l h) (fits (newest h) l) _ _ (λ _ n. absurd (n refl)) (λ _ _. (refl, refl)))
answered_unless l h Drop = λ n. absurd (n refl)
answered_unless l h Unknown = λ _. (refl, refl)

pub refused_same : RefusedSame
unfolding edited
refused_same l h q =
    chosen (Unless l h) (fitting l h) _ _ (λ _.
    chosen (Unless l h) (allowed l h) _ _ (λ _. answered_unless l h q) (λ _ _. (refl, refl)))
    (λ _ _. (refl, refl))

-- ---- an accepted edit
-- the lengths and the list were good, and the answer is that of the request
pub record Answered (l : List BoxRecord) (h : History) (q : Request) (x : Edited) : Type 0 where
  pub long : length l ≡ BOXES
  pub words : length h.words ≡ EDIT_WORDS
  pub good : allowed l h ≡ true
  pub is : x ≡ answered l h q

fitting_long : (l : List BoxRecord) (h : History) → fitting l h ≡ true → (length l ≡ BOXES) × (length h.words ≡ EDIT_WORDS)
fitting_long l h f = let t = both_true _ _ f in (eqb-true _ _ t.0, eqb-true _ _ t.1)

pub answers : (l : List BoxRecord) (h : History) (q : Request) → (edited l h q).number ≡ 0 → Answered l h q (edited l h q)
unfolding edited
answers l h q =
    chosen (λ (x : Edited). x.number ≡ 0 → Answered l h q x) (fitting l h) _ _ (λ f.
    chosen (λ (x : Edited). x.number ≡ 0 → Answered l h q x) (allowed l h) _ _
    (λ a _. record { long = (fitting_long l h f).0; words = (fitting_long l h f).1; good = a; is = refl })
    (λ _ z. absurd (omega arith)))
    (λ _ z. absurd (omega arith))

pub edited_is : (l : List BoxRecord) (h : History) (q : Request) → fitting l h ≡ true → allowed l h ≡ true → edited l h q ≡ answered l h q
unfolding edited choose
edited_is l h q f a = rw (f, a)

fits_long : (l : List BoxRecord) (h : History) → length l ≡ BOXES → length h.words ≡ EDIT_WORDS → fitting l h ≡ true
fits_long l h p q = both_of (eq-eqb _ _ p) (eq-eqb _ _ q)

-- a change
pub record Taken (l : List BoxRecord) (h : History) (c : Change) (x : Edited) : Type 0 where
  pub entry : Entry
  pub plans : plan l h c ≡ Ok entry
  pub is : x ≡ accepted (done entry l) (push h entry)

taken_of : (l : List BoxRecord) (h : History) (c : Change) → (planned l h (plan l h c)).number ≡ 0 → Taken l h c (planned l h (plan l h c))
unfolding planned
taken_of l h c = go (plan l h c) refl
  where
    go : (p : Plan) → plan l h c ≡ p → (planned l h p).number ≡ 0 → Taken l h c (planned l h p)
    go (Ok e) s z = record { entry = e; plans = s; is = refl }
    go (Err r) s z = absurd (number_some r z)

pub taken : (l : List BoxRecord) (h : History) (c : Change) → (edited l h (Make c)).number ≡ 0 → Taken l h c (edited l h (Make c))
taken l h c z =
    let a = answers l h (Make c) z in
    subst (Taken l h c) (sym a.is) (taken_of l h c (sym (ap (λ (x : Edited). x.number) a.is) ∙ z))

module _ (l : List BoxRecord) (h : History) (c : Change) (z : (edited l h (Make c)).number ≡ 0) where
  was : Answered l h (Make c) (edited l h (Make c))
  was = answers l h (Make c) z

  pub took : Taken l h c (edited l h (Make c))
  took = taken l h c z

  abbrev e : Entry
  e = took.entry

  gave : Gave l h e
  gave = plan_gave l h c e took.plans

  pub found : Sound (boxes l) l h
  found = sound l h was.long was.good

  room : h.count < EDITS
  room = let n : h.count ≡ EDITS → ⊥ = plan_room l h c e took.plans in omega (arith, found.few)

  made_allowed : allowed (done e l) (push h e) ≡ true
  made_allowed = sound_allowed (stays found room gave)

  made_fits : fitting (done e l) (push h e) ≡ true
  made_fits = fits_long (done e l) (push h e) (done_long l h e was.long gave) (ending_long h.count e h.words)

  newest_is : newest (push h e) ≡ e
  newest_is = let s : h.count + 1 - 1 ≡ h.count = omega arith in ap (entry (push h e).words) s ∙ push_new h e room

  undone_is : undo (done e l) (push h e) ≡ accepted l (keep h.count h)
  unfolding undo choose
  undone_is =
      let s : h.count + 1 - 1 ≡ h.count = omega arith in
      rw (ne_eqb (h.count + 1) 0 (λ q. omega arith), newest_is, fits_done found.list gave, back l h e found.list gave, s, ending_twice h.count e h.words)

  undo_here : edited (edited l h (Make c)).list (edited l h (Make c)).history Undo ≡ accepted l (keep h.count h)
  undo_here =
      ap (λ (x : Edited). edited x.list x.history Undo) took.is
      ∙ edited_is (done e l) (push h e) Undo made_fits made_allowed ∙ undone_is

pub undo_any : UndoAny
undo_any l h c z = undo_here l h c z

-- ---- allowed lists stay so
abbrev Clean : History → Type 0
Clean h = (j : ℕ) → h.count * FIELDS ≤ j → get_or h.words j 0 ≡ 0

abbrev Good : List BoxRecord → History → Type 0
Good l h = (fitting l h ≡ true) × ((allowed l h ≡ true) × Clean h)

abbrev Outcome : Edited → Type 0
Outcome x = x.number ≡ 0 → Good x.list x.history

fresh_deletes : (i : ℕ) → deleted fresh i ≡ false
unfolding deleted_by
fresh_deletes i = some_none 0 _ (λ k b. absurd (omega arith))

dropped_allowed : (l : List BoxRecord) (h : History) → length l ≡ BOXES → allowed l h ≡ true → allowed l fresh ≡ true
dropped_allowed l h long a =
    let s : Sound (boxes l) l h = sound l h long a in
    sound_allowed (record { list = s.list; few = omega arith; entries = λ k b. absurd (omega arith); kept = λ k _. fresh_deletes (at l k).id })

fresh_good : (l : List BoxRecord) → length l ≡ BOXES → allowed l fresh ≡ true → Good l fresh
fresh_good l long a = (fits_long l fresh long (length-replicate {A = ℕ} EDIT_WORDS 0), (a, λ j _. zero_at EDIT_WORDS j))

undo_good : (l : List BoxRecord) (h : History) → length l ≡ BOXES → allowed l h ≡ true → Outcome (undo l h)
unfolding undo
undo_good l h long a =
    chosen Outcome (eqb h.count 0) _ _ (λ _ z. absurd (omega arith)) (λ n.
    chosen Outcome (fits (newest h) l) _ _
    (λ f _. let g : Gives (undone (newest h) l) (rest h) (newest h) l = fits_gives l h long a (eqb-false _ _ n) f in
    (fits_long (undone (newest h) l) (keep (h.count - 1) h) g.long (ending_long (h.count - 1) none h.words), (kept_allowed (undone (newest h) l) (h.count - 1) h.words g.long g.good, words_kept (h.count - 1) h.words)))
    (λ _ z. absurd (omega arith)))
  where
    -- what lies beyond the count has no say
    kept_allowed : (m : List BoxRecord) (n : ℕ) (w : List ℕ) → length m ≡ BOXES → allowed m (past n w) ≡ true → allowed m (past n (ending n none w)) ≡ true
    kept_allowed m n w lm ok =
        let s : Sound (boxes m) m (past n w) = sound m (past n w) lm ok in
        sound_allowed (record {
          list = s.list;
          few = s.few;
          entries = λ k b. entry_same (ending n none w) w k (λ j t. entry_before n none w j s.few (omega arith)) ∙ s.entries k b;
          kept = λ k b. deleted_same (ending n none w) w n (at m k).id (λ j t. entry_before n none w j s.few t) ∙ s.kept k b;
        })

answered_good : (l : List BoxRecord) (h : History) (q : Request) → length l ≡ BOXES → allowed l h ≡ true → (edited l h q).number ≡ 0 → edited l h q ≡ answered l h q → Outcome (answered l h q)
answered_good l h (Make c) long a z i = λ _.
    subst (λ (x : Edited). Good x.list x.history) (sym (took l h c z).is ∙ i)
    (made_fits l h c z, (made_allowed l h c z, words_pushed))
  where
    words_pushed : Clean (push h (took l h c z).entry)
    words_pushed j s = words_behind h.count (took l h c z).entry h.words j s
answered_good l h Undo long a z i = undo_good l h long a
answered_good l h Drop long a z i = λ _. fresh_good l long (dropped_allowed l h long a)
answered_good l h Unknown long a z i = λ n. absurd (omega arith)

pub stays_allowed : StaysAllowed
stays_allowed l h q z =
    let a = answers l h q z in
    subst (λ (x : Edited). Good x.list x.history) (sym a.is) (answered_good l h q a.long a.good z a.is (sym (ap (λ (x : Edited). x.number) a.is) ∙ z))

-- ---- what is built
start_good : allowed (replicate BOXES blank) fresh ≡ true
unfolding both choose allowed every first boxes good_at
start_good = refl

pub built_good : {l : List BoxRecord} {h : History} → Built l h → Good l h
built_good nothing = fresh_good (replicate BOXES blank) (length-replicate BOXES blank) start_good
built_good (more {l} {h} b q z) = stays_allowed l h q z

clean_kept : (l : List BoxRecord) (h : History) → Good l h → keep h.count h ≡ h
clean_kept l h g = ap (past h.count) (kept_same h.count h.words (fitting_long l h g.0).1 g.1.1)

pub undo_good_exact : (l : List BoxRecord) (h : History) → Good l h → (c : Change) → (edited l h (Make c)).number ≡ 0
    → edited (edited l h (Make c)).list (edited l h (Make c)).history Undo ≡ accepted l h
undo_good_exact l h g c z = undo_any l h c z ∙ ap (accepted l) (clean_kept l h g)

pub undo_exact : UndoExact
undo_exact l h b c z = undo_good_exact l h (built_good b) c z

changed_good : {l : List BoxRecord} {h : History} {n : ℕ} {m : List BoxRecord} {g : History} → Good l h → Changed l h n m g → Good m g
changed_good o begun = o
changed_good o (next {n} {m} {g} s c z) = stays_allowed m g (Make c) z

back_all : {l : List BoxRecord} {h : History} {n : ℕ} {m : List BoxRecord} {g : History} → Good l h → Changed l h n m g → after (accepted m g) (replicate n Undo) ≡ accepted l h
back_all o begun = refl
back_all o (next {n} {m} {g} s c z) =
    ap (λ (x : Edited). after x (replicate n Undo)) (undo_good_exact m g (changed_good o s) c z) ∙ back_all o s

pub undo_all : UndoAll
undo_all l h b n m g s = back_all (built_good b) s

-- ---- undo's own clause
pub only_one : OnlyOne
only_one m l h e g = gives_undone g

pub unique : Unique
unique a b l h e p q = sym (gives_undone p) ∙ gives_undone q

pub fits_exactly : FitsExactly
fits_exactly l h f a n = (fits_gives l h (fitting_long l h f).0 a n, λ m g. gives_fits g)

pub undo_finds : UndoFinds
unfolding undo choose
undo_finds m l h f a n g = edited_is l h Undo f a ∙ rw (ne_eqb h.count 0 n, gives_fits g, gives_undone g)

pub undo_refuses : UndoRefuses
unfolding undo choose
undo_refuses l h f a n none-gives =
    edited_is l h Undo f a ∙ rw (ne_eqb h.count 0 n) (by_test (fits (newest h) l)
    (λ g. absurd (none-gives (undone (newest h) l) (fits_gives l h (fitting_long l h f).0 a n g))) (λ g. rw g))

-- ---- dropping, ids, room
pub drop_keeps : DropKeeps
drop_keeps l h f a = edited_is l h Drop f a

pub not_again : NotAgain
unfolding plan
not_again l h i d z =
    subst No (taken l h (Add i) z).plans (
    chosen No (eqb h.count EDITS) _ _ (λ _. tt) (λ _.
    chosen No (ltb (place l i) BOXES) _ _ (λ _. tt) (λ _.
    chosen No (deleted h i) _ _ (λ _. tt) (λ n. not_both d n))))
  where
    No : Plan → Type 0
    No (Ok _) = ⊥
    No (Err _) = Unit {0}

pub delete_plan : (l : List BoxRecord) (h : History) (i : ℕ) (e : Entry) → plan l h (Delete i) ≡ Ok e → (e ≡ deletion l (place l i)) × (place l i < BOXES)
unfolding plan
delete_plan l h i e z =
    subst Named z (
    chosen Named (eqb h.count EDITS) _ _ (λ _. tt) (λ _.
    chosen Named (eqb (place l i) BOXES) _ _ (λ _. tt) (λ n. (refl, known l i n))))
  where
    Named : Plan → Type 0
    Named (Ok e) = (e ≡ deletion l (place l i)) × (place l i < BOXES)
    Named (Err _) = Unit {0}

-- a deletion leaves room
delete_room : (l : List BoxRecord) (h : History) (i : ℕ) (z : (edited l h (Make (Delete i))).number ≡ 0) → boxes (edited l h (Make (Delete i))).list < BOXES
unfolding done choose
delete_room l h i z =
    let d = delete_plan l h i _ (took l h (Delete i) z).plans in
    let n : place l i < boxes l = listed_live (found l h (Delete i) z).list (place l i) (place_live l i d.1).0 in
    let is : (edited l h (Make (Delete i))).list ≡ without_box l (place l i) = ap (λ (x : Edited). x.list) (took l h (Delete i) z).is ∙ rw d.0 in
    let less : boxes (without_box l (place l i)) ≡ boxes l - 1 = listed_boxes (listed_without (found l h (Delete i) z).list (place l i) n) in
    rw is (omega (arith, boxes_most l))

add_plan : (m : List BoxRecord) (g : History) (i : ℕ) → (g.count ≡ EDITS → ⊥) → place m i ≡ BOXES → deleted g i ≡ false → boxes m < BOXES → plan m g (Add i) ≡ Ok (added i)
unfolding plan choose
add_plan m g i c p d b = rw (ne_eqb g.count EDITS c, le-ltb (place m i) BOXES (omega arith), d, ne_eqb (boxes m) BOXES (λ q. omega arith))

pub room_again : RoomAgain
unfolding planned done choose
room_again l h gone i z m g is c p d =
    let list : (edited l h (Make (Delete gone))).list ≡ m = ap (λ (x : Edited). x.list) is in
    let good : Good m g = subst (λ (x : Edited). Good x.list x.history) is (stays_allowed l h (Make (Delete gone)) z) in
    let room : boxes m < BOXES = subst (λ (x : List BoxRecord). boxes x < BOXES) list (delete_room l h gone z) in
    let long : length m ≡ BOXES = (fitting_long m g good.0).0 in
    let here : boxes m < length m = omega arith in
    let x : edited m g (Make (Add i)) ≡ accepted (set m (boxes m) (new_box i)) (push g (added i)) = edited_is m g (Make (Add i)) good.0 good.1.0 ∙ rw (add_plan m g i c p d room) in
    (rw x refl, rw x (get_or-set_same m (boxes m) (new_box i) blank here))
