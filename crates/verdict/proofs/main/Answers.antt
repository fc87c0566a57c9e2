-- `verdict::main` is safe: what it writes lies within its buffer.
use Rattle.std.proofs.Common.{arith}
use Rattle.verdict.proofs.Within.{written}
use Rattle.verdict.proofs.main.Goals as goal

pub slice_bounds-write_all-end : goal.slice_bounds-write_all-end
slice_bounds-write_all-end c = omega (arith, written _ _ c.zarpalume_verdict-length.ensures)
