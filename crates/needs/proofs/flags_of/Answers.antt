-- `needs::flags_of` meets its contract.
use Rattle.std.proofs.Common.{rules, ◌≡◌, length}
use Rattle.model.specs.Limits.{STATES}
use Rattle.reach.specs.Set.{listed}
use Rattle.needs.proofs.Answering.{copied_all}
use Rattle.needs.proofs.flags_of.Goals as goal

pub returns : goal.returns
returns c =
    let h : length (listed c.args.reached) ≡ STATES = search rules in
    copied_all c.states.invariant c.states-test.false h
