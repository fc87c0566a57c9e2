-- Entries as words: what stands in a history after an entry is written behind the first n.
-- Assumes nothing.
use mathlib.Core.Path.{◌≡◌, refl, sym, ap, ◌∙◌}
use mathlib.Core.List.{List}
use mathlib.Core.Logic.{⊎_elim}
use Prim.Native.Nat.{ℕ, zero, suc, ◌+◌, ◌-◌, ◌*◌, ◌<◌, ◌≤◌}
use native.Mathlib.Omega.{arith}
use lib.ListN.{length, get_or, take, drop, length-append, length-drop, replicate, get_or-eq_default, get_or-replicate, length-replicate}
use lib.Dec.{ltb}
use mathlib.Core.List.{◌++◌}
use borrow.Rule.Slice.PartMut.{put_mid, post_of}
use Rattle.std.proofs.lemmas.List.{get_or-take, get_or-drop, get_or_append_left, get_or-append_right, length-take-le}
use borrow.Author.Tests.{lt-ltb, le-ltb}
use Rattle.laws.specs.Choice.{choose}
use Rattle.laws.specs.Range.{tabulate}
use Rattle.laws.proofs.Range.{tabulate_same}
use Rattle.laws.proofs.Tables.{zero_at, length_tabulate, tabulate_at, tabulated}
use Rattle.model.specs.Limits.{EDITS, EDIT_WORDS}
use Rattle.edits.specs.History.{FIELDS, fields, entry, none, ending_at, ending}
use Rattle.edits.specs.declared.Entry.{Entry}
use Rattle.edits.proofs.Found.{below_or}

pub ending_long : (n : ℕ) (e : Entry) (w : List ℕ) → length (ending n e w) ≡ EDIT_WORDS
unfolding ending
ending_long n e w = length_tabulate EDIT_WORDS (ending_at n e w)

-- a word before the entry
word_before : (n : ℕ) (e : Entry) (w : List ℕ) (j : ℕ) → j < EDIT_WORDS → j < n * FIELDS → get_or (ending n e w) j 0 ≡ get_or w j 0
unfolding ending ending_at choose
word_before n e w j b s = tabulate_at EDIT_WORDS (ending_at n e w) j 0 b ∙ rw (lt-ltb j (n * FIELDS) s)

-- a word of the entry, or behind it
word_from : (n : ℕ) (e : Entry) (w : List ℕ) (i : ℕ) → n * FIELDS + i < EDIT_WORDS → get_or (ending n e w) (n * FIELDS + i) 0 ≡ get_or (fields e) i 0
unfolding ending ending_at choose
word_from n e w i b =
    let less : n * FIELDS + i - n * FIELDS ≡ i = omega arith in
    tabulate_at EDIT_WORDS (ending_at n e w) (n * FIELDS + i) 0 b ∙ rw (le-ltb (n * FIELDS + i) (n * FIELDS) (omega arith)) (ap (λ (m : ℕ). get_or (fields e) m 0) less)

pub entry_before : (n : ℕ) (e : Entry) (w : List ℕ) (k : ℕ) → n ≤ EDITS → k < n → entry (ending n e w) k ≡ entry w k
unfolding entry
entry_before n e w k b s =
    rw (
      word_before n e w (k * FIELDS) (omega arith) (omega arith),
      word_before n e w (k * FIELDS + 1) (omega arith) (omega arith),
      word_before n e w (k * FIELDS + 2) (omega arith) (omega arith),
      word_before n e w (k * FIELDS + 3) (omega arith) (omega arith),
      word_before n e w (k * FIELDS + 4) (omega arith) (omega arith),
      word_before n e w (k * FIELDS + 5) (omega arith) (omega arith),
    )

pub entry_new : (n : ℕ) (e : Entry) (w : List ℕ) → n < EDITS → entry (ending n e w) n ≡ e
unfolding entry
entry_new n e w b =
    let start : n * FIELDS ≡ n * FIELDS + 0 = omega arith in
    let first : get_or (ending n e w) (n * FIELDS) 0 ≡ e.kind = ap (λ (j : ℕ). get_or (ending n e w) j 0) start ∙ word_from n e w 0 (omega arith) in
    rw (
      first,
      word_from n e w 1 (omega arith),
      word_from n e w 2 (omega arith),
      word_from n e w 3 (omega arith),
      word_from n e w 4 (omega arith),
      word_from n e w 5 (omega arith),
    )

-- nothing stands behind it
pub words_behind : (n : ℕ) (e : Entry) (w : List ℕ) (j : ℕ) → (n + 1) * FIELDS ≤ j → get_or (ending n e w) j 0 ≡ 0
unfolding ending ending_at choose
words_behind n e w j s = ⊎_elim
    (λ (b : j < EDIT_WORDS). tabulate_at EDIT_WORDS (ending_at n e w) j 0 b ∙ rw (le-ltb j (n * FIELDS) (omega arith)) (get_or-eq_default (fields e) 0 {n = j - n * FIELDS} (omega arith)))
    (λ (b : EDIT_WORDS ≤ j). get_or-eq_default (tabulate EDIT_WORDS (ending_at n e w)) 0 {n = j} (omega (arith, length_tabulate EDIT_WORDS (ending_at n e w))))
    (below_or j EDIT_WORDS)

no_fields : (i : ℕ) → get_or (fields none) i 0 ≡ 0
no_fields i = get_d_zeros 6 i
  where
    get_d_zeros : (m i : ℕ) → ◌≡◌ {A = ℕ} (get_or (replicate m 0) i 0) 0
    get_d_zeros zero i = refl
    get_d_zeros (suc m) zero = refl
    get_d_zeros (suc m) (suc i) = get_d_zeros m i

pub words_kept : (n : ℕ) (w : List ℕ) (j : ℕ) → n * FIELDS ≤ j → get_or (ending n none w) j 0 ≡ 0
unfolding ending ending_at choose
words_kept n w j s = ⊎_elim
    (λ (b : j < EDIT_WORDS). tabulate_at EDIT_WORDS (ending_at n none w) j 0 b ∙ rw (le-ltb j (n * FIELDS) s) (no_fields (j - n * FIELDS)))
    (λ (b : EDIT_WORDS ≤ j). get_or-eq_default (tabulate EDIT_WORDS (ending_at n none w)) 0 {n = j} (omega (arith, length_tabulate EDIT_WORDS (ending_at n none w))))
    (below_or j EDIT_WORDS)

-- words that are blank from an entry on are kept as they are
pub kept_same : (n : ℕ) (w : List ℕ) → length w ≡ EDIT_WORDS → ((j : ℕ) → n * FIELDS ≤ j → get_or w j 0 ≡ 0) → ending n none w ≡ w
unfolding ending ending_at choose
kept_same n w l z = sym (tabulated 0 EDIT_WORDS (ending_at n none w) w l (λ j _. ⊎_elim
    (λ (s : j < n * FIELDS). rw (lt-ltb j (n * FIELDS) s))
    (λ (s : n * FIELDS ≤ j). rw (le-ltb j (n * FIELDS) s, no_fields (j - n * FIELDS)) (z j s))
    (below_or j (n * FIELDS))))

-- an entry that was written, cut off again
pub ending_twice : (n : ℕ) (e : Entry) (w : List ℕ) → ending n none (ending n e w) ≡ ending n none w
unfolding ending ending_at choose
ending_twice n e w = tabulate_same EDIT_WORDS (ending_at n none (ending n e w)) (ending_at n none w) (λ j b. ⊎_elim
    (λ (s : j < n * FIELDS). rw (lt-ltb j (n * FIELDS) s) (word_before n e w j b s))
    (λ (s : n * FIELDS ≤ j). rw (le-ltb j (n * FIELDS) s))
    (below_or j (n * FIELDS)))

-- nothing is kept
pub kept_none : (w : List ℕ) → ending 0 none w ≡ replicate EDIT_WORDS 0
unfolding ending ending_at choose
kept_none w = sym (tabulated 0 EDIT_WORDS (ending_at 0 none w) (replicate EDIT_WORDS 0) (length-replicate {A = ℕ} EDIT_WORDS 0)
    (λ j b. get_or-replicate EDIT_WORDS j 0 0 b ∙ rw (le-ltb j 0 (omega arith)) (sym (no_fields (j - 0)))))

-- ---- how the code writes
-- a word after a part was written
put_at : (a k : ℕ) (w v : List ℕ) (j : ℕ) → a + k ≤ length w → length v ≡ k
    → get_or (put_mid a k w v) j 0 ≡ choose (ltb j a) (get_or w j 0) (choose (ltb j (a + k)) (get_or v (j - a) 0) (get_or w j 0))
unfolding choose
put_at a k w v j b l =
    let long : length (take a w) ≡ a = length-take-le a w (omega arith) in
    ⊎_elim
    (λ (s : j < a). rw (lt-ltb j a s) (get_or_append_left (take a w) (v ++ post_of a k w) 0 j (omega arith) ∙ get_or-take a w j 0 s))
    (λ (s : a ≤ j). rw (le-ltb j a s) (get_or-append_right (take a w) (v ++ post_of a k w) a j 0 long s ∙ ⊎_elim
    (λ (t : j < a + k). rw (lt-ltb j (a + k) t) (get_or_append_left v (post_of a k w) 0 (j - a) (omega arith)))
    (λ (t : a + k ≤ j).
    let e : a + (k + (j - a - k)) ≡ j = omega arith in
    rw (le-ltb j (a + k) t) (get_or-append_right v (post_of a k w) k (j - a) 0 l (omega arith) ∙ get_or-drop k (drop a w) (j - a - k) 0 ∙ get_or-drop a w (k + (j - a - k)) 0 ∙ ap (λ (m : ℕ). get_or w m 0) e))
    (below_or j (a + k))))
    (below_or j a)

put_long : (a k : ℕ) (w v : List ℕ) → a + k ≤ length w → length v ≡ k → length (put_mid a k w v) ≡ length w
put_long a k w v b l =
    omega (arith, length-append (take a w) (v ++ post_of a k w), length-append v (post_of a k w), length-take-le a w (omega arith), length-drop k (drop a w), length-drop a w)

-- blank words behind the first n entries
pub cut_is : (n : ℕ) (w v : List ℕ) → n ≤ EDITS → length w ≡ EDIT_WORDS → v ≡ replicate (EDIT_WORDS - n * FIELDS) 0 → put_mid (n * FIELDS) (EDIT_WORDS - n * FIELDS) w v ≡ ending n none w
unfolding ending ending_at choose
cut_is n w v m l e =
    let long : length v ≡ EDIT_WORDS - n * FIELDS = ap length e ∙ length-replicate {A = ℕ} (EDIT_WORDS - n * FIELDS) 0 in
    tabulated 0 EDIT_WORDS (ending_at n none w) (put_mid (n * FIELDS) (EDIT_WORDS - n * FIELDS) w v) (put_long (n * FIELDS) (EDIT_WORDS - n * FIELDS) w v (omega arith) long ∙ l)
    (λ j b. put_at (n * FIELDS) (EDIT_WORDS - n * FIELDS) w v j (omega arith) long ∙ ⊎_elim
    (λ (s : j < n * FIELDS). rw (lt-ltb j (n * FIELDS) s) refl)
    (λ (s : n * FIELDS ≤ j). rw (le-ltb j (n * FIELDS) s, lt-ltb j (n * FIELDS + (EDIT_WORDS - n * FIELDS)) (omega arith), e, zero_at (EDIT_WORDS - n * FIELDS) (j - n * FIELDS), no_fields (j - n * FIELDS)) refl)
    (below_or j (n * FIELDS)))

-- an entry behind the first n
pub push_is : (n k : ℕ) (e : Entry) (w u v : List ℕ) → n < EDITS → k ≡ FIELDS → u ≡ ending n none w → v ≡ fields e → put_mid (n * FIELDS) k u v ≡ ending n e w
unfolding ending ending_at choose
push_is n k e w u v m s is l = ap (λ (k : ℕ). put_mid (n * FIELDS) k u v) s ∙
    let long : length u ≡ EDIT_WORDS = ap length is ∙ ending_long n none w in
    let six : length v ≡ FIELDS = ap length l in
    tabulated 0 EDIT_WORDS (ending_at n e w) (put_mid (n * FIELDS) FIELDS u v) (put_long (n * FIELDS) FIELDS u v (omega arith) six ∙ long)
    (λ j b. put_at (n * FIELDS) FIELDS u v j (omega arith) six ∙ word j b)
  where
    word : (j : ℕ) → j < EDIT_WORDS → choose (ltb j (n * FIELDS)) (get_or u j 0) (choose (ltb j (n * FIELDS + FIELDS)) (get_or v (j - n * FIELDS) 0) (get_or u j 0)) ≡ ending_at n e w j
    word j b = ⊎_elim
        (λ (s : j < n * FIELDS). rw (lt-ltb j (n * FIELDS) s, is) (word_before n none w j b s))
        (λ (s : n * FIELDS ≤ j). rw (le-ltb j (n * FIELDS) s) (⊎_elim
        (λ (t : j < n * FIELDS + FIELDS). rw (lt-ltb j (n * FIELDS + FIELDS) t, l) refl)
        (λ (t : n * FIELDS + FIELDS ≤ j). rw (le-ltb j (n * FIELDS + FIELDS) t, is) (words_kept n w j s ∙ sym (get_or-eq_default (fields e) 0 {n = j - n * FIELDS} (omega arith))))
        (below_or j (n * FIELDS + FIELDS))))
        (below_or j (n * FIELDS))
