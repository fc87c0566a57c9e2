-- `purge::asked` meets its contract. Assumes nothing.
use mathlib.Core.Path.{◌∙◌}
use mathlib.Core.Logic.{⊎_elim}
use native.Mathlib.Omega.{arith}
use borrow.Author.Tests.{lt-ltb, le-ltb, le-leb, lt-leb}
use Rattle.laws.specs.Choice.{both}
use Rattle.purge.specs.Purged.{asked}
use Rattle.purge.proofs.asked.Goals as goal
use Rattle.purge.proofs.asked.Goals.{then-position-sizes, else-position-sizes}

pub returns-then-run-le-RUN_ACTIONS : goal.returns-then-run-le-RUN_ACTIONS
unfolding asked both
returns-then-run-le-RUN_ACTIONS c =
    let t = c.if-run-le-RUN_ACTIONS.true in
    rw (lt-ltb _ _ t.0, le-leb _ _ t.1) c.names_actions.ensures

pub returns-else-run-le-RUN_ACTIONS : goal.returns-else-run-le-RUN_ACTIONS
unfolding asked both
returns-else-run-le-RUN_ACTIONS c =
    elim c.if-position-sizes.branch [
      | then-position-sizes w ↦ ⊎_elim
          (λ h. rw (lt-ltb _ _ w.if-position-sizes.true, lt-leb _ _ h.1) (w.t-6-is ∙ lt-leb _ _ h.1)) (λ h. absurd (omega arith))
          c.if-run-le-RUN_ACTIONS.either
      | else-position-sizes w ↦ rw (le-ltb _ _ w.if-position-sizes.false) (w.t-6-is ∙ le-ltb _ _ w.if-position-sizes.false)
    ]
