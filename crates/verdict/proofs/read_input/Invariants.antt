-- `verdict::read_input` meets its contract: each turn leaves less of the buffer to fill.
use Rattle.std.specs.Prelude.{length, ◌-◌, ◌≡◌, ◌≤◌}
use Rattle.verdict.proofs.read_input.Given as goal

abbrev pub invariant-pieces : goal.invariant-pieces
invariant-pieces g l = (length l.input ≡ length l.initial.input) × (l.count ≤ length l.input)

abbrev pub decreases-pieces : goal.decreases-pieces
decreases-pieces g l = length l.input - l.count
