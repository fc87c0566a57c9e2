-- Lines written into the rest of a buffer: what has room, and the fields of a line one after the other.
-- Assumes nothing.
use mathlib.Core.Path.{◌≡◌, refl, sym, ◌∙◌, ap}
use mathlib.Core.List.{List, [], ◌∷◌, ◌++◌, append_assoc}
use Prim.Native.Nat.{ℕ, suc, ◌+◌, ◌-◌, ◌*◌, ◌<◌, ◌≤◌}
use native.Mathlib.Omega.{arith}
use native.Mathlib.Numerals.{add-one}
use lib.ListN.{length, get_or, take, drop, set, length-append}
use lib.Seq.{drop-cons, set_at}
use Rattle.text.specs.Number.{decimal}
use Rattle.text.specs.Written.{Written, fitting}
use Rattle.text.proofs.Digits.{digits_few}
use borrow.Rule.Slice.PartMut.{put_mid}
use Rattle.text.proofs.Buffer.{fits, same_as, written_length, lent, nothing}
use Rattle.zarpalume.specs.Lines.{line, tabbed, ended, need_lines, depth_lines}
use Rattle.zarpalume.specs.Words as words

-- what has room is written whole
pub whole : {b b' : List ℕ} {n : ℕ} (xs : List ℕ) → length xs ≤ length b → Written b b' n (fitting b xs) → Written b b' n xs × (n ≤ length xs)
whole {b} {b'} {n} xs h w =
    let v : Written b b' n xs = same_as (fits b xs h) w in let c = v.count in (v, omega arith)

-- a number has at most ten digits
pub number_whole : {b b' : List ℕ} {n : ℕ} (v : ℕ) → 10 ≤ length b → Written b b' n (fitting b (decimal v)) → Written b b' n (decimal v) × (n ≤ 10)
number_whole v h w =
    let d = digits_few 10 v in let p = whole (decimal v) (omega arith) w in let q = p.1 in (p.0, omega arith)

-- one byte more
pub one_more : {b b' : List ℕ} {n : ℕ} {xs : List ℕ} (e : ℕ) → n < length b → Written b b' n xs → Written b (set b' n e) (n + 1) (xs ++ (e ∷ []))
one_more {b} {b'} {n} {xs} e h w =
    let c = w.count in
    record {
      count = simp length-append (omega arith);
      now_is = rw (w.now_is, drop-cons b n 0 h, set_at xs _ (drop (suc n) b) e n (sym c), add-one) (simp append_assoc);
    }

-- ---- lines from their fields
pub pair_line : (w a b : List ℕ) → ((w ++ (9 ∷ [])) ++ (a ++ (9 ∷ []))) ++ (b ++ (10 ∷ [])) ≡ line (w ∷ a ∷ b ∷ [])
unfolding line
pair_line w a b = simp append_assoc

-- p is the words before a place, each with its tab
pub place_line : (p a b c d : List ℕ) →
    (((p ++ (a ++ (9 ∷ []))) ++ (b ++ (9 ∷ []))) ++ (c ++ (9 ∷ []))) ++ (d ++ (10 ∷ []))
    ≡ p ++ (a ++ (9 ∷ (b ++ (9 ∷ (c ++ (9 ∷ (d ++ (10 ∷ []))))))))
place_line p a b c d = simp append_assoc

-- ---- a loop that writes a line a turn: what it has written, and how much that is at most
pub record Growing (b b' : List ℕ) (at : ℕ) (xs : List ℕ) (most : ℕ) : Type 0 where
  pub written : Written b b' at xs
  pub bound : at ≤ most
  pub long : length b' ≡ length b

pub growing_none : (b : List ℕ) → Growing b b 0 [] 0
growing_none b = record { written = nothing b; bound = omega arith; long = refl }

pub growing_more : {b b' p : List ℕ} {at n : ℕ} {xs ys : List ℕ} {most : ℕ} (zs : List ℕ) (each : ℕ) → Growing b b' at xs most → most + each ≤ length b →
    Written (take (length b' - at) (drop at b')) p n ys → n ≤ each → ys ≡ zs → Growing b (put_mid at (length b' - at) b' p) (at + n) (xs ++ zs) (most + each)
growing_more {b} {b'} {p} {at} {n} {xs} {ys} {most} zs each g room w l e =
    let o = g.bound in
    let q = g.long in
    let v : Written b (put_mid at (length b' - at) b' p) (at + n) (xs ++ zs) = lent g.written (omega arith) (same_as e w) in
    record { written = v; bound = omega arith; long = written_length v (omega arith) }

growing_same : {b b' : List ℕ} {at : ℕ} {xs ys : List ℕ} {m n : ℕ} → xs ≡ ys → m ≡ n → Growing b b' at xs m → Growing b b' at ys n
growing_same e f g = record { written = same_as e g.written; bound = (let o = g.bound in omega arith); long = g.long }

module _ (ids list : List ℕ) (k : ℕ) where
  need : List ℕ
  need = line (words.need ∷ decimal (get_or ids (get_or list (2 * k) 0) 0) ∷ decimal (get_or ids (get_or list (2 * k + 1) 0) 0) ∷ [])

  needs_next : need_lines ids list k ++ need ≡ need_lines ids list (k + 1)
  unfolding need_lines need
  needs_next = sym (ap (need_lines ids list) (add-one k))

  pub need_more : (s t : ℕ) {b b' p : List ℕ} {at n i j : ℕ} → Growing b b' at (need_lines ids list k) (27 * k) → 27 * k + 27 ≤ length b →
      Written (take (length b' - at) (drop at b')) p n (((words.need ++ (9 ∷ [])) ++ tabbed s) ++ ended t) → n ≤ 27 →
      i ≡ get_or list (2 * k) 0 → s ≡ get_or ids i 0 → j ≡ get_or list (2 * k + 1) 0 → t ≡ get_or ids j 0 →
      Growing b (put_mid at (length b' - at) b' p) (at + n) (need_lines ids list (k + 1)) (27 * (k + 1))
  unfolding need
  need_more s t g room w l hi hs hj ht =
      growing_same needs_next (omega arith) (growing_more need 27 g room w l
      (pair_line words.need (decimal s) (decimal t)
      ∙ ap (λ x. line (words.need ∷ decimal x ∷ decimal t ∷ [])) (hs ∙ ap (λ x. get_or ids x 0) hi)
      ∙ ap (λ x. line (words.need ∷ decimal (get_or ids (get_or list (2 * k) 0) 0) ∷ decimal x ∷ [])) (ht ∙ ap (λ x. get_or ids x 0) hj)))

module _ (ids depths : List ℕ) (k : ℕ) where
  depth : List ℕ
  depth = line (words.depth ∷ decimal (get_or ids k 0) ∷ decimal (get_or depths k 0) ∷ [])

  depths_next : depth_lines ids depths k ++ depth ≡ depth_lines ids depths (k + 1)
  unfolding depth_lines depth
  depths_next = sym (ap (depth_lines ids depths) (add-one k))

  pub depth_more : (s : ℕ) {b b' p : List ℕ} {at n : ℕ} → Growing b b' at (depth_lines ids depths k) (28 * k) → 28 * k + 28 ≤ length b →
      Written (take (length b' - at) (drop at b')) p n (((words.depth ++ (9 ∷ [])) ++ tabbed s) ++ ended (get_or depths k 0)) → n ≤ 28 →
      s ≡ get_or ids k 0 → Growing b (put_mid at (length b' - at) b' p) (at + n) (depth_lines ids depths (k + 1)) (28 * (k + 1))
  unfolding depth
  depth_more s g room w l hs =
      growing_same depths_next (omega arith) (growing_more depth 28 g room w l
      (pair_line words.depth (decimal s) (decimal (get_or depths k 0)) ∙ ap (λ x. line (words.depth ∷ decimal x ∷ decimal (get_or depths k 0) ∷ [])) hs))
