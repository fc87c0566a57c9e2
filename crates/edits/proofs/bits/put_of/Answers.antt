-- `edits::bits::put_of` meets its contract. Assumes nothing.
use Rattle.std.proofs.Common.{◌≡◌, refl, ◌∙◌, Bool, true, false, ◌<◌}
use native.Mathlib.Omega.{arith}
use mir.Val.{bool_byte}
use Rattle.laws.proofs.Bits.{put_is, put_room}
use Rattle.edits.specs.Private.{one_if}
use Rattle.edits.proofs.bits.put_of.Goals as goal

byte_is : (b : Bool) → bool_byte b ≡ one_if b
byte_is true = refl
byte_is false = refl

byte_small : (b : Bool) → bool_byte b < 2
byte_small true = omega arith
byte_small false = omega arith

pub overflow_mul-result-2 : goal.overflow_mul-result-2
overflow_mul-result-2 c =
    let s : c.from.result < 2 = omega (arith, c.from.ensures, byte_small c.args.b) in
    record { fits = omega (arith, put_room c.args.p c.from.result c.args.set c.power-low.result c.power-low.ensures (omega arith) s c.requires.1) }

pub overflow_add-result-2 : goal.overflow_add-result-2
overflow_add-result-2 c =
    let s : c.from.result < 2 = omega (arith, c.from.ensures, byte_small c.args.b) in
    record { fits = omega (arith, put_room c.args.p c.from.result c.args.set c.power-low.result c.power-low.ensures (omega arith) s c.requires.1) }

pub returns : goal.returns
returns c = rw (c.power-low.ensures, c.from.ensures ∙ byte_is c.args.b) (put_is c.args.p (one_if c.args.b) c.args.set)
