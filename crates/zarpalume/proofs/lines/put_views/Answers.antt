-- `zarpalume::lines::put_views` meets its contract. Assumes nothing.
use mathlib.Core.Path.{◌≡◌, ◌∙◌}
use borrow.Author.Rules.{rules}
use native.Mathlib.Omega.{arith}
use Rattle.std.specs.Prelude.{Err}
use Rattle.views.specs.declared.Fault.TheVariants.{Output, Respect, Step, Refused}
use Rattle.zarpalume.proofs.ViewsLine.{line_accepted, line_output, line_respect, line_step, line_refused}
use Rattle.zarpalume.proofs.lines.put_views.Goals as goal

pub returns-in-Ok : goal.returns-in-Ok
returns-in-Ok c = (line_accepted c.args.model.now.ids c.args.model.now.machine.owners _ c.in-Ok.is c.put_words.ensures.0, omega arith)

pub returns-in-Err-Output : goal.returns-in-Err-Output
returns-in-Err-Output c =
    let i = c.in-Err-Output in
    let e : c.args.judged ≡ Err (Output i.action i.s i.t) = search rules in
    (line_output _ _ _ e c.owner.ensures c.id-id.ensures c.put_places.ensures.0, omega arith)

pub returns-in-Err-Respect : goal.returns-in-Err-Respect
returns-in-Err-Respect c =
    let i = c.in-Err-Respect in
    let e : c.args.judged ≡ Err (Respect i.position i.action i.s) = search rules in
    (line_respect _ _ _ e c.id.ensures c.put_respect.ensures.0, omega arith)

pub returns-in-Err-Step : goal.returns-in-Err-Step
returns-in-Err-Step c =
    let i = c.in-Err-Step in
    let e : c.args.judged ≡ Err (Step i.position i.action i.s i.t) = search rules in
    (line_step _ _ _ e c.id-id-in-Err-Step.ensures c.put_places-in-Err-Step.ensures.0, omega arith)

pub returns-in-Err-Refused : goal.returns-in-Err-Refused
returns-in-Err-Refused c =
    let i = c.in-Err-Refused in
    let e : c.args.judged ≡ Err (Refused i.refused) = search rules in
    (line_refused c.args.model.now.ids c.args.model.now.machine.owners _ e (c.from-number.ensures ∙ c.number.ensures) c.put_pair.ensures.0, omega arith)
