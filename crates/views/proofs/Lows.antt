-- The table of first alike states: how it is filled.
-- Assumes nothing.
use mathlib.Core.Path.{◌≡◌, refl, sym, ap, subst, ◌∙◌}
use mathlib.Core.Logic.{◌≢◌, by_cases}
use mathlib.Core.List.{List}
use Prim.Native.Nat.{ℕ, zero, suc, ◌+◌, ◌*◌, ◌<◌, ◌≤◌}
use native.Mathlib.Nat.{not-suc-le-zero}
use native.Mathlib.Decide.{ℕ_discrete}
use native.Mathlib.Omega.{arith}
use borrow.Author.Count.{below_more}
use lib.ListN.{length, get_or, set, length-set, replicate, length-replicate}
use lib.Seq.{get_or-set_same, get_or-set_other}
use Rattle.model.specs.Limits.{STATES, BOXES}
use Rattle.std.specs.declared.option.Option.{Option}
use Rattle.std.specs.declared.option.Option.TheVariants.{None, Some}
use Rattle.std.specs.Option.{MatchOption, unwrap_or}
use Rattle.views.specs.Guards.{LOWS, SLOTS, class_at, low_at, Least, Lows, Filled, slot_of, other_of, Slots, Others, Second, Noted}

-- two states of one class have one first state, and only those
pub least_same : {states : ℕ} {views : List ℕ} {u s t r q : ℕ} → Least states views u s r → Least states views u t q →
    class_at states views u s ≡ class_at states views u t → r ≡ q
least_same {r = r} {q = q} h k e =
    let a : r < q → ⊥ = λ l. k.none r l (h.like ∙ e) in
    let b : q < r → ⊥ = λ l. h.none q l (k.like ∙ sym e) in
    omega arith

pub least_like : {states : ℕ} {views : List ℕ} {u s t r q : ℕ} → Least states views u s r → Least states views u t q → r ≡ q →
    class_at states views u s ≡ class_at states views u t
least_like {states} {views} {u} h k e = sym h.like ∙ ap (class_at states views u) e ∙ k.like

-- ---- the first of an iterator, and s where it has none
pub least_of : {states : ℕ} {views : List ℕ} {u s : ℕ} (o : Option ℕ)
    → MatchOption o ((k : ℕ) → 0 ≤ k → k < s → class_at states views u k ≡ class_at states views u s → ⊥)
    (λ i. (0 ≤ i) × (i < s) × (class_at states views u i ≡ class_at states views u s) × ((k : ℕ) → 0 ≤ k → k < i → class_at states views u k ≡ class_at states views u s → ⊥))
    → Least states views u s (unwrap_or o s)
least_of None h = record { upto = omega arith; like = refl; none = λ j l. h j (omega arith) l }
least_of (Some i) h = record { upto = omega (arith, h.1); like = h.2; none = λ j l. h.3 j (omega arith) l }

-- ---- by way of the slots
-- t is at most any earlier state of the class of s
module _ {states : ℕ} {views : List ℕ} {u s t : ℕ} (w : (j : ℕ) → j < s → class_at states views u j ≡ class_at states views u s → t ≤ j) where
  below_new : s ≤ t → Least states views u s s
  below_new l = record { upto = omega arith; like = refl; none = λ j p e. let q = w j p e in omega arith }

  below_slot : t < s → class_at states views u t ≡ class_at states views u s → Least states views u s t
  below_slot l e = record { upto = omega arith; like = e; none = λ j p k. let q = w j (omega arith) k in omega arith }

pub slots_none : (states : ℕ) (views : List ℕ) (u : ℕ) (slots : List ℕ) → length slots ≡ SLOTS → Slots states views u 0 slots
slots_none states views u slots e = record { size = e; upto = λ j l. absurd (not-suc-le-zero l) }

-- c is the class of s, h its slot, and t what the slot names
module _ {states : ℕ} {views slots : List ℕ} {u s c h t : ℕ} (w : Slots states views u s slots)
    (ec : c ≡ class_at states views u s) (eh : h ≡ slot_of c) (et : t ≡ get_or slots h 0) where
  here : h ≡ slot_of (class_at states views u s)
  here = eh ∙ ap slot_of ec

  -- a state of the class of s has the slot of s
  slot_below : (j : ℕ) → j < s → class_at states views u j ≡ class_at states views u s → t ≤ j
  slot_below j l e =
      let q : get_or slots (slot_of (class_at states views u j)) 0 ≡ t = ap (λ x. get_or slots x 0) (ap slot_of e ∙ sym here) ∙ sym et in
      let p = w.upto j l in
      omega arith

  pub least_new : s ≤ t → Least states views u s s
  least_new l = below_new slot_below l

  pub least_slot : {x : ℕ} → t < s → x ≡ class_at states views u t → x ≡ c → Least states views u s t
  least_slot l ex e = below_slot slot_below l (sym ex ∙ e ∙ ec)

  pub slots_keep : t < s → Slots states views u (s + 1) slots
  slots_keep l =
      let q : get_or slots (slot_of (class_at states views u s)) 0 ≡ t = ap (λ x. get_or slots x 0) (sym here) ∙ sym et in
      record { size = w.size; upto = below_more (λ j. get_or slots (slot_of (class_at states views u j)) 0 ≤ j) s w.upto (omega arith) }

  -- a free slot is taken, and those of earlier states stay
  slot_set : (v : ℕ) → h < SLOTS → get_or (set slots h v) (slot_of (class_at states views u s)) 0 ≡ v
  slot_set v m = ap (λ x. get_or (set slots h v) x 0) (sym here) ∙ get_or-set_same slots h v 0 (omega (arith, w.size))

  slot_stays : (v : ℕ) → s ≤ t → (j : ℕ) → j < s →
      get_or (set slots h v) (slot_of (class_at states views u j)) 0 ≡ get_or slots (slot_of (class_at states views u j)) 0
  slot_stays v l j p =
      let k = w.upto j p in
      get_or-set_other slots h (slot_of (class_at states views u j)) v 0
      (λ e. (let q : get_or slots (slot_of (class_at states views u j)) 0 ≡ t = ap (λ x. get_or slots x 0) e ∙ sym et in omega arith))

  pub slots_put : {v : ℕ} → s ≤ t → h < SLOTS → v ≡ s → Slots states views u (s + 1) (set slots h v)
  slots_put {v} l m ev =
      record {
        size = length-set slots h v ∙ w.size;
        upto = below_more (λ j. get_or (set slots h v) (slot_of (class_at states views u j)) 0 ≤ j) s before last;
      }
    where
      last : get_or (set slots h v) (slot_of (class_at states views u s)) 0 ≤ s
      last = let r = slot_set v m in omega arith

      before : (j : ℕ) → j < s → get_or (set slots h v) (slot_of (class_at states views u j)) 0 ≤ j
      before j p =
          let k = w.upto j p in
          let r = slot_stays v l j p in
          omega arith

  -- what the second slots keep to
  pub others_put : {others : List ℕ} {v : ℕ} → Others states views u s slots others → s ≤ t → h < SLOTS → v ≡ s →
      Others states views u (s + 1) (set slots h v) others
  others_put {others} {v} o l m ev = record {
    size = o.size;
    upto = below_more
        (λ j. (class_at states views u (get_or (set slots h v) (slot_of (class_at states views u j)) 0) ≡ class_at states views u j → ⊥) → get_or others (other_of (class_at states views u j)) 0 ≤ j)
        s
        (λ j p n. o.upto j p (λ e. n (ap (class_at states views u) (slot_stays v l j p) ∙ e)))
        (λ n. absurd (n (ap (class_at states views u) (slot_set v m ∙ ev))));
  }

  slot_now : get_or slots (slot_of (class_at states views u s)) 0 ≡ t
  slot_now = ap (λ x. get_or slots x 0) (sym here) ∙ sym et

  pub others_keep : {others : List ℕ} {x : ℕ} → Others states views u s slots others → x ≡ class_at states views u t → x ≡ c →
      Others states views u (s + 1) slots others
  others_keep {others} o ex e = record {
    size = o.size;
    upto = below_more
        (λ j. (class_at states views u (get_or slots (slot_of (class_at states views u j)) 0) ≡ class_at states views u j → ⊥) → get_or others (other_of (class_at states views u j)) 0 ≤ j)
        s
        o.upto
        (λ n. absurd (n (ap (class_at states views u) slot_now ∙ sym ex ∙ e ∙ ec)));
  }

  pub others_second : {others : List ℕ} {x : ℕ} → Others states views u s slots others → x ≡ class_at states views u t → (x ≡ c → ⊥) →
      Second states views u s others
  others_second {others} o ex d = record {
    size = o.size;
    upto = λ j p e.
        (let q : get_or slots (slot_of (class_at states views u j)) 0 ≡ t = ap (λ x. get_or slots (slot_of x) 0) e ∙ slot_now in
        subst (λ y. get_or others (other_of y) 0 ≤ j) e (o.upto j p (λ k. d (ex ∙ ap (class_at states views u) (sym q) ∙ k ∙ e ∙ sym ec))));
  }

pub others_none : (states : ℕ) (views : List ℕ) (u : ℕ) (slots others : List ℕ) → length others ≡ SLOTS → Others states views u 0 slots others
others_none states views u slots others e = record { size = e; upto = λ j l. absurd (not-suc-le-zero l) }

pub others_more : {states : ℕ} {views slots before after : List ℕ} {u s : ℕ} → Others states views u s slots before → Noted states views u s before after →
    Others states views u (s + 1) slots after
others_more {states} {views} {slots} {before} {after} {u} {s} o w = record {
  size = w.size;
  upto = below_more
      (λ j. (class_at states views u (get_or slots (slot_of (class_at states views u j)) 0) ≡ class_at states views u j → ⊥) → get_or after (other_of (class_at states views u j)) 0 ≤ j)
      s
      (λ j p n. let k = o.upto j p n in let m = w.lower (other_of (class_at states views u j)) in omega arith)
      (λ n. w.here);
}

-- c is the class of s, h its second slot, and t what the slot names
module _ {states : ℕ} {views others : List ℕ} {u s c h t : ℕ} (w : Second states views u s others)
    (ec : c ≡ class_at states views u s) (eh : h ≡ other_of c) (et : t ≡ get_or others h 0) where
  there : h ≡ other_of (class_at states views u s)
  there = eh ∙ ap other_of ec

  second_now : get_or others (other_of (class_at states views u s)) 0 ≡ t
  second_now = ap (λ x. get_or others x 0) (sym there) ∙ sym et

  second_below : (j : ℕ) → j < s → class_at states views u j ≡ class_at states views u s → t ≤ j
  second_below j l e = let p = w.upto j l e in let q = second_now in omega arith

  pub second_new : s ≤ t → Least states views u s s
  second_new l = below_new second_below l

  pub second_slot : {x : ℕ} → t < s → x ≡ class_at states views u t → x ≡ c → Least states views u s t
  second_slot l ex e = below_slot second_below l (sym ex ∙ e ∙ ec)

  pub noted_keep : t < s → Noted states views u s others others
  noted_keep l = record { size = w.size; here = (let q = second_now in omega arith); lower = λ i. omega arith }

  pub noted_put : {v : ℕ} → s ≤ t → h < SLOTS → v ≡ s → Noted states views u s others (set others h v)
  noted_put {v} l m ev = record {
    size = length-set others h v ∙ w.size;
    here = (let q : get_or (set others h v) (other_of (class_at states views u s)) 0 ≡ v = ap (λ x. get_or (set others h v) x 0) (sym there) ∙ put in omega arith);
    lower = λ i. by_cases (ℕ_discrete i h) (at i) (off i);
  }
    where
      put : get_or (set others h v) h 0 ≡ v
      put = get_or-set_same others h v 0 (omega (arith, w.size))

      at : (i : ℕ) → i ≡ h → get_or (set others h v) i 0 ≤ get_or others i 0
      at i e =
          let q : get_or (set others h v) i 0 ≡ v = ap (λ k. get_or (set others h v) k 0) e ∙ put in
          let k : get_or others i 0 ≡ t = ap (λ k. get_or others k 0) e ∙ sym et in
          omega arith

      off : (i : ℕ) → i ≢ h → get_or (set others h v) i 0 ≤ get_or others i 0
      off i n = let q = get_or-set_other others h i v 0 n in omega arith

-- ---- the table
pub same_at : {A : Type 0} (n i : ℕ) (x : A) → get_or (replicate n x) i x ≡ x
same_at zero i x = refl
same_at (suc n) zero x = refl
same_at (suc n) (suc i) x = same_at n i x

pub filled_none : (states : ℕ) (views : List ℕ) → Filled states views (replicate LOWS 0) 0 0
filled_none states views = record {
  size = length-replicate {A = ℕ} LOWS 0;
  small = record { small = λ i. let e = same_at {A = ℕ} LOWS i 0 in omega arith };
  rows = λ v j l. absurd (not-suc-le-zero l);
  row = λ j l. absurd (not-suc-le-zero l);
}

pub filled_more : {states : ℕ} {views low : List ℕ} {u s x v : ℕ} → Filled states views low u s → states ≤ STATES → u < BOXES → s < states →
    Least states views u s x → v ≡ x → Filled states views (set low (u * STATES + s) v) u (s + 1)
filled_more {states} {views} {low} {u} {s} {x} {v} h m lu l w ev = record {
  size = length-set low (u * STATES + s) v ∙ h.size;
  small = record { small = λ i. by_cases (ℕ_discrete i (u * STATES + s)) (at i) (off i) };
  rows = λ k j p q. subst (λ y. Least states views k j y) (sym (get_or-set_other low (u * STATES + s) (k * STATES + j) v 0 (λ e. omega arith))) (h.rows k j p q);
  row = below_more (λ j. Least states views u j (low_at (set low (u * STATES + s) v) u j)) s
      (λ j p. subst (λ y. Least states views u j y) (sym (get_or-set_other low (u * STATES + s) (u * STATES + j) v 0 (λ e. omega arith))) (h.row j p))
      (subst (λ y. Least states views u s y) (sym (here ∙ ev)) w);
}
  where
    here : get_or (set low (u * STATES + s) v) (u * STATES + s) 0 ≡ v
    here = get_or-set_same low (u * STATES + s) v 0 (omega (arith, h.size))

    at : (i : ℕ) → i ≡ u * STATES + s → get_or (set low (u * STATES + s) v) i 0 < STATES
    at i e =
        let q : get_or (set low (u * STATES + s) v) i 0 ≡ v = ap (λ k. get_or (set low (u * STATES + s) v) k 0) e ∙ here in
        omega (arith, w.upto)

    off : (i : ℕ) → i ≢ u * STATES + s → get_or (set low (u * STATES + s) v) i 0 < STATES
    off i n = let q = get_or-set_other low (u * STATES + s) i v 0 n in let k = h.small.small i in omega arith

pub filled_row : {states : ℕ} {views low : List ℕ} {u s : ℕ} → Filled states views low u s → states ≤ s → Filled states views low (u + 1) 0
filled_row {states} {views} {low} {u} h l = record {
  size = h.size;
  small = h.small;
  rows = λ v j p q. below_more (λ v. (j : ℕ) → j < states → Least states views v j (low_at low v j)) u (λ v p j q. h.rows v j p q)
      (λ j p. h.row j (omega arith)) v p j q;
  row = λ j p. absurd (not-suc-le-zero p);
}

pub filled_all : {states boxes : ℕ} {views low : List ℕ} {u s : ℕ} → Filled states views low u s → boxes ≤ u → Lows states boxes views low
filled_all h l = record { small = h.small; least = λ u s p q. h.rows u s (omega arith) q }
