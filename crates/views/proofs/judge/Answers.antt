-- `views::judge` meets its contract. Assumes nothing.
use mathlib.Core.Path.{◌≡◌, ◌∙◌, ap}
use borrow.Author.Rules.{rules}
use borrow.Author.Tests.{eq-eqb, ne_eqb}
use Rattle.std.specs.Prelude.{Err}
use Rattle.laws.proofs.Tests.{both_of, both_no, choose_yes, choose_no, told}
use Rattle.laws.proofs.Loops.{both_not}
use Rattle.model.specs.Refusal.{refused_as}
use Rattle.model.proofs.Good.{model_table_good}
use Rattle.views.specs.declared.Fault.TheVariants.{Refused}
use Rattle.views.specs.Judgement.{lengths_fit, judgement_of}
use Rattle.views.proofs.judge.Goals as goal

pub returns-in_err-next : goal.returns-in_err-next
unfolding judgement_of lengths_fit
returns-in_err-next c =
    let h = c.in_err-next.ensures in
    let r : c.from_residual.result ≡ Err (Refused (refused_as c.in_err-next.field-0.0 0)) = search rules in
    choose_no _ (both_not _ (ne_eqb _ _ h.1)) (r ∙ ap (λ x. Err (Refused (refused_as x 0))) h.0)

pub returns-in_err-outputs : goal.returns-in_err-outputs
unfolding judgement_of lengths_fit
returns-in_err-outputs c =
    let h = c.in_err-outputs.ensures in
    let r : c.from_residual-in_err-outputs.result ≡ Err (Refused (refused_as c.in_err-outputs.field-0.0 0)) = search rules in
    choose_no _ (both_no _ (both_not _ (ne_eqb _ _ h.1))) (r ∙ ap (λ x. Err (Refused (refused_as x 0))) h.0)

pub returns-in_err-views : goal.returns-in_err-views
unfolding judgement_of lengths_fit
returns-in_err-views c =
    let h = c.in_err-views.ensures in
    let r : c.from_residual-in_err-views.result ≡ Err (Refused (refused_as c.in_err-views.field-0.0 0)) = search rules in
    choose_no _ (both_no _ (both_no _ (ne_eqb _ _ h.1))) (r ∙ ap (λ x. Err (Refused (refused_as x 0))) h.0)

pub first_broken-requires : goal.first_broken-requires
first_broken-requires c = ((model_table_good _ _).0 (told _ _ c.model_table_fits.ensures c.if-not-model_table_fits.false)).0

pub returns-then-not-model_table_fits : goal.returns-then-not-model_table_fits
unfolding judgement_of lengths_fit
returns-then-not-model_table_fits c =
    let a = c.in_ok-next.ensures.1 in
    let b = c.in_ok-outputs.ensures.1 in
    let d = c.in_ok-views.ensures.1 in
    choose_yes _ (both_of (eq-eqb _ _ a) (both_of (eq-eqb _ _ b) (eq-eqb _ _ d)))
    (choose_no _ (told _ _ (rw c.in_ok-next.ensures.0 at c.model_table_fits.ensures) c.if-not-model_table_fits.true) (ap Err c.into.ensures))

pub returns : goal.returns
unfolding judgement_of lengths_fit
returns c =
    let a = c.in_ok-next.ensures.1 in
    let b = c.in_ok-outputs.ensures.1 in
    let d = c.in_ok-views.ensures.1 in
    choose_yes _ (both_of (eq-eqb _ _ a) (both_of (eq-eqb _ _ b) (eq-eqb _ _ d)))
    (choose_yes _ (told _ _ (rw c.in_ok-next.ensures.0 at c.model_table_fits.ensures) c.if-not-model_table_fits.false)
    (rw (c.in_ok-next.ensures.0, c.in_ok-outputs.ensures.0, c.in_ok-views.ensures.0) at c.first_broken.ensures))
