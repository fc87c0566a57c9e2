-- Laws of writing at the front of a buffer. Assumes nothing.
use Rattle.std.proofs.Common.{◌≡◌, ℕ, suc, ◌+◌, ◌-◌, ◌<◌, ◌≤◌, List, [], ◌++◌, length, get_or, take, drop, set, sym, refl, ap, ◌∙◌, append_assoc, append-nil, add-one, arith, length-append, length-drop, drop_of_length-le, length-take-le, take_all, drop-cons, take-suc, drop-drop, take_at, drop_at, le-leb}
use lib.Seq.{set_at}
use borrow.Rule.Slice.PartMut.{put_mid}
use Rattle.text.specs.Written.{Written, fitting}

-- one more byte copied
pub copy_more : (s b : List ℕ) (i : ℕ) → i < length s → i < length b → set (take i s ++ drop i b) i (get_or s i 0) ≡ take (i + 1) s ++ drop (i + 1) b
copy_more s b i h g =
    let e : length (take i s) ≡ i = length-take-le i s (omega arith) in
    rw (add-one, drop-cons b i 0 g, set_at (take i s) (get_or b i 0) (drop (suc i) b) (get_or s i 0) i e, take-suc s i 0 h) (simp append_assoc)

-- nothing written
pub nothing : (b : List ℕ) → Written b b 0 []
nothing b = record { count = refl; now_is = refl }

-- what has room is written whole
pub fits : (b xs : List ℕ) → length xs ≤ length b → fitting b xs ≡ xs
fits b xs h = rw (le-leb (length xs) (length b) h)

-- the same bytes, written otherwise
pub same_as : {b b' : List ℕ} {n : ℕ} {xs ys : List ℕ} → xs ≡ ys → Written b b' n xs → Written b b' n ys
same_as e w = record { count = w.count ∙ ap length e; now_is = rw (← e) w.now_is }

-- a buffer keeps its length
pub written_length : {b b' : List ℕ} {n : ℕ} {xs : List ℕ} → Written b b' n xs → n ≤ length b → length b' ≡ length b
written_length {b} {b'} {n} {xs} w h = rw (w.now_is, length-append, length-drop) (omega (arith, w.count))

-- a part after those that were written
onward : {b b' p : List ℕ} {n k : ℕ} {xs ys : List ℕ} → Written b b' n xs → Written (drop n b') p k ys → Written b (take n b' ++ p) (n + k) (xs ++ ys)
onward {b} {b'} {p} {n} {k} {xs} {ys} w u = record {
  count = simp length-append (omega (arith, w.count, u.count));
  now_is = rw (u.now_is, w.now_is, take_at xs (drop n b) n (sym w.count), drop_at xs (drop n b) n (sym w.count), drop-drop) (simp append_assoc);
}

part_is : (l : List ℕ) (n : ℕ) → take (length l - n) (drop n l) ≡ drop n l
part_is l n = take_all (length l - n) (drop n l) (simp length-drop (omega arith))

-- the tail from n on, lent as a part, and come back with more written
pub lent : {b b' p : List ℕ} {n k : ℕ} {xs ys : List ℕ} → Written b b' n xs → n ≤ length b' → Written (take (length b' - n) (drop n b')) p k ys → Written b (put_mid n (length b' - n) b' p) (n + k) (xs ++ ys)
lent {b} {b'} {p} {n} {k} {xs} {ys} w h u =
    let u' : Written (drop n b') p k ys = (rw (part_is b' n) at u) in
    let e : drop (length b' - n) (drop n b') ≡ [] = drop_of_length-le (drop n b') {i = length b' - n} (simp length-drop (omega arith)) in
    rw (e, append-nil) (onward w u')
