-- `drive::main` is safe: what is read ahead stands in the window.
use Rattle.std.specs.Prelude.{◌≤◌, length}
use Rattle.drive.proofs.main.Given as goal

abbrev pub invariant-loop : goal.invariant-loop
invariant-loop l = (l.start ≤ l.end) × (l.end ≤ length l.window)
