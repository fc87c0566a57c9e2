-- `text::grown` meets its contract. Assumes nothing.
use Rattle.std.proofs.Common.{◌≡◌, ◌+◌, ◌%◌, ap, ℕ, arith}
use Rattle.text.proofs.Digits.{digit_far, digit_over, digit_within}
use Rattle.text.proofs.grown.Goals as goal

pub returns-then-d-gt9 : goal.returns-then-d-gt9
returns-then-d-gt9 c = let e : (c.from-d.result + 4294967248) % 4294967296 ≡ (c.args.byte + 4294967248) % 4294967296 = ap (λ (x : ℕ). (x + 4294967248) % 4294967296) c.from-d.ensures in digit_far c.args.limit c.args.value _ c.args.byte c.ranges.byte.fits e c.if-d-gt9.true

pub returns-else-v-from : goal.returns-else-v-from
returns-else-v-from c = let e : (c.from-d.result + 4294967248) % 4294967296 ≡ (c.args.byte + 4294967248) % 4294967296 = ap (λ (x : ℕ). (x + 4294967248) % 4294967296) c.from-d.ensures in digit_over c.args.limit c.args.value ((c.from-d.result + 4294967248) % 4294967296) c.args.byte c.ranges.byte.fits e (omega arith) (omega arith)

pub returns-then-v-from : goal.returns-then-v-from
returns-then-v-from c = let e : (c.from-d.result + 4294967248) % 4294967296 ≡ (c.args.byte + 4294967248) % 4294967296 = ap (λ (x : ℕ). (x + 4294967248) % 4294967296) c.from-d.ensures in rw (c.from.ensures, c.from-2.ensures) (digit_within c.args.limit c.args.value ((c.from-d.result + 4294967248) % 4294967296) c.args.byte c.ranges.byte.fits e (omega arith) (omega arith))
