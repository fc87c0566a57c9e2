-- `edits::bits::has` meets its contract. Assumes nothing.
use Rattle.std.proofs.Common.{◌≡◌, refl, ℕ, zero, suc, ◌<◌, not, arith}
use lib.Dec.{eqb}
use Rattle.laws.specs.Bits.{bit}
use Rattle.laws.proofs.Bits.{bit_below, bit_is}
use Rattle.edits.specs.Private.{one_if}
use Rattle.edits.proofs.bits.has.Goals as goal

of_two : (b : ℕ) → b < 2 → (not (eqb b 1) ≡ eqb b 0) × (one_if (eqb b 1) ≡ b)
of_two zero s = (refl, refl)
of_two (suc zero) s = (refl, refl)
of_two (suc (suc n)) s = absurd (omega arith)

pub returns : goal.returns
returns c =
    let t = of_two (bit c.args.k c.args.set) (bit_below c.args.k c.args.set) in
    rw (bit_is c.args.k c.args.set) (record { within = refl; without = t.0; number = t.1 })
