-- `text::put_bytes` meets its contract: the first `i` bytes are copied.
use Rattle.std.proofs.Common.{◌≡◌, ◌++◌, length, take, drop}
use Rattle.text.proofs.put_bytes.Given as goal

abbrev pub invariant-loop-i : goal.invariant-loop-i
invariant-loop-i l = (length l.tail ≡ length l.initial.tail) × (l.tail ≡ take l.i l.bytes ++ drop l.i l.initial.tail)
