-- `views::first_broken` meets its contract. Assumes nothing.
use mathlib.Core.Path.{◌≡◌, sym, ◌∙◌}
use borrow.Author.Rules.{rules}
use Rattle.std.specs.Prelude.{Err}
use Rattle.noninterference.specs.Judged.{judged}
use Rattle.views.specs.Judgement.{first_broken}
use Rattle.views.proofs.Flags.{first_decides, first_passes}
use Rattle.views.proofs.Searches.{output_free, respect_free, step_free}
use Rattle.views.proofs.first_broken.Goals as goal

pub returns-in_err-first_output : goal.returns-in_err-first_output
unfolding first_broken judged
returns-in_err-first_output c =
    let k = c.args in
    let r : c.from_residual.result ≡ Err c.in_err-first_output.field-0.0 = search rules in
    r ∙ first_decides _ _ (sym c.in_err-first_output.was ∙ c.first_output.ensures ∙ output_free k.model.now.machine k.next.now k.outputs.now k.views.now)

pub returns-in_err-first_respect : goal.returns-in_err-first_respect
unfolding first_broken judged
returns-in_err-first_respect c =
    let k = c.args in
    let r : c.from_residual-in_err-first_respect.result ≡ Err c.in_err-first_respect.field-0.0 = search rules in
    r
    ∙ first_passes _ _ (sym c.in_ok-first_output.was ∙ c.first_output.ensures ∙ output_free k.model.now.machine k.next.now k.outputs.now k.views.now)
    (first_decides _ _ (sym c.in_err-first_respect.was ∙ c.first_respect.ensures.first ∙ respect_free k.model.now k.next.now k.outputs.now k.views.now))

pub returns : goal.returns
unfolding first_broken judged
returns c =
    let k = c.args in
    first_passes _ _ (sym c.in_ok-first_output.was ∙ c.first_output.ensures ∙ output_free k.model.now.machine k.next.now k.outputs.now k.views.now)
    (first_passes _ _ (sym c.in_ok-first_respect.was ∙ c.first_respect.ensures.first ∙ respect_free k.model.now k.next.now k.outputs.now k.views.now)
    (c.first_step.ensures ∙ step_free k.model.now.machine k.next.now k.outputs.now k.views.now))
