-- `sheet::read_lines` meets its contract. Assumes nothing.
use Rattle.std.proofs.Common.{rules, refl, sym, ◌∙◌}
use Rattle.std.proofs.lemmas.Result.{err_from_is_err_and}
use Rattle.sheet.specs.Numbers.{as_sizes}
use Rattle.sheet.specs.Records.{sheet_line}
use Rattle.sheet.proofs.Taking.{taken_is}
use Rattle.sheet.proofs.First.{first_sizes, first_bad, first_good}
use Rattle.sheet.proofs.read_lines.Goals as goal

pub returns-in_err-taken : goal.returns-in_err-taken
returns-in_err-taken c = let p = err_from_is_err_and c.from_residual.result c.from_residual.ensures.1 in rw (p.1, p.2) (first_bad c.args.sheet.ended _ _ _ (sym (taken_is (λ l. as_sizes (sheet_line l)) _ _ _ (λ l x k. search rules) c.take.ensures) ∙ c.in_err-taken.was))

pub read_body-requires : goal.read_body-requires
read_body-requires c = record { sizes = (first_sizes c.args.sheet.text.now (sym (taken_is (λ l. as_sizes (sheet_line l)) _ _ _ (λ l x k. search rules) c.take.ensures) ∙ c.in_ok-taken.was)) }

pub returns : goal.returns
returns c = c.read_body.ensures ∙ ((first_good c.args.sheet.ended _ _ (sym (taken_is (λ l. as_sizes (sheet_line l)) _ _ _ (λ l x k. search rules) c.take.ensures) ∙ c.in_ok-taken.was) refl))
