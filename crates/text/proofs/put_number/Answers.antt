-- `text::put_number` meets its contract: the digits of what is left, with those that are set after them, are the value's. Assumes nothing.
use Rattle.std.proofs.Common.{◌≡◌, ℕ, zero, suc, ◌+◌, ◌-◌, ◌/◌, ◌%◌, ◌^◌, ◌<◌, ◌≤◌, List, ◌∷◌, length, take, drop, set, sym, ◌∙◌, append_assoc, pow-suc, arith, length-drop, length-set, length-take-le, take_all, drop_at}
use lib.Seq.{set_split}
use Rattle.text.specs.Number.{decimal}
use Rattle.text.proofs.Digits.{digits_one, digits_more}
use Rattle.text.proofs.put_number.Invariants.{At}
use Rattle.text.proofs.put_number.Goals as goal

-- what stands from a place on, after a byte is set there
drop_set : (ds : List ℕ) (i v : ℕ) → i < length ds → drop i (set ds i v) ≡ v ∷ drop (suc i) ds
drop_set ds i v h = rw (set_split ds i v h, drop_at (take i ds) (v ∷ drop (suc i) ds) i (length-take-le i ds (omega arith)))

module _ {value : ℕ} {ds : List ℕ} {left i : ℕ} (p : At value ds left i) where
  last : left < 10 → take (10 - i) (drop i (set ds i (48 + left))) ≡ decimal value
  last h =
      take_all (10 - i) _ (rw (length-drop, length-set) (omega (arith, p.room)))
      ∙ drop_set ds i (48 + left) (omega (arith, p.room, p.within))
      ∙ (rw (digits_one i left h) at p.rest)

  module _ (h : 10 ≤ left) where
    some : 0 < i
    some = go i p.short
      where
        go : (i : ℕ) → left < 10 ^ suc i → 0 < i
        go zero g = absurd (omega (arith, g))
        go (suc i) g = omega arith

    again : At value (set ds i (48 + left % 10)) (left / 10) (i - 1)
    again =
        let e : suc (i - 1) ≡ i = omega (arith, some) in
        record {
          within = omega (arith, p.within);
          room = length-set ds i (48 + left % 10) ∙ p.room;
          short = rw e (omega (arith, rw (pow-suc 10 i) at p.short));
          rest = rw (e, drop_set ds i (48 + left % 10) (omega (arith, p.room, p.within))) (sym (simp append_assoc) ∙ (rw (digits_more i left h) at p.rest));
        }

pub loop-left-preserved : goal.loop-left-preserved
loop-left-preserved c = again c.loop-left.invariant (omega arith)

pub returns : goal.returns
returns c = rw (← last c.loop-left.invariant (omega arith)) c.put_bytes.ensures
