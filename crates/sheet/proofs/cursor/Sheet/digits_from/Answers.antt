-- `sheet::cursor::Sheet::digits_from` meets its contract. Assumes nothing.
use Rattle.std.proofs.Common.{refl, sym, ◌∙◌, arith}
use Rattle.text.proofs.Digits.{digit_some}
use Rattle.sheet.proofs.OnePass.{after_digit, more_one, number_one}
use Rattle.sheet.proofs.cursor.Sheet.digits_from.Goals as goal

pub bounds-self-at-2 : goal.bounds-self-at-2
bounds-self-at-2 c = after_digit c.args.self.ended _ _ _ _ c.requires (sym c.grown.ensures ∙ c.in_ok-a.was)

pub digits_end-requires : goal.digits_end-requires
digits_end-requires c = after_digit c.args.self.ended _ _ _ _ c.requires (sym c.grown.ensures ∙ c.in_ok-a.was)

pub returns-in_default : goal.returns-in_default
returns-in_default c = number_one _ _ _ c.requires _ refl _ _ (sym c.grown.ensures ∙ c.in_ok-a.was) c.digits_end.result (c.digits_end.ensures _)

pub bounds-self-at-3 : goal.bounds-self-at-3
bounds-self-at-3 c =
    let h = after_digit c.args.self.ended _ _ _ _ c.requires (sym c.grown.ensures ∙ c.in_ok-a.was) in
    omega (arith, after_digit c.args.self.ended _ _ _ _ h (sym c.grown-2.ensures ∙ c.in-Some.is))

pub digits_end-requires-in_default-grown : goal.digits_end-requires-in_default-grown
digits_end-requires-in_default-grown c =
    let h = after_digit c.args.self.ended _ _ _ _ c.requires (sym c.grown.ensures ∙ c.in_ok-a.was) in
    omega (arith, after_digit c.args.self.ended _ _ _ _ h (sym c.grown-2.ensures ∙ c.in-Some.is))

pub returns-in_default-grown : goal.returns-in_default-grown
returns-in_default-grown c =
    let g = sym c.grown.ensures ∙ c.in_ok-a.was in
    let h = after_digit c.args.self.ended _ _ _ _ c.requires g in
    number_one _ _ _ c.requires _ refl _ _ g c.digits_end-in_default-grown.result
    (more_one _ _ _ h _ (omega arith) _ _ _ (omega arith) (sym c.grown-2.ensures ∙ c.in-Some.is) c.digits_end-in_default-grown.result (c.digits_end-in_default-grown.ensures _))

pub digits_more-requires : goal.digits_more-requires
digits_more-requires c =
    let g = sym c.grown.ensures ∙ c.in_ok-a.was in
    let g2 = sym c.grown-2.ensures ∙ c.in-Some.is in
    let g3 = sym c.grown-3.ensures ∙ c.in-Some-grown.is in
    let q = c.args.self.ended in
    let h = after_digit q _ _ _ _ c.requires g in
    let h2 = after_digit q _ _ _ _ h g2 in
    record { in_text = omega (arith, after_digit q _ _ _ _ (omega arith) g3); positive = digit_some _ _ _ _ g3 (digit_some _ _ _ _ g2 (omega arith)) }

pub returns : goal.returns
returns c =
    let g = sym c.grown.ensures ∙ c.in_ok-a.was in
    let g2 = sym c.grown-2.ensures ∙ c.in-Some.is in
    let g3 = sym c.grown-3.ensures ∙ c.in-Some-grown.is in
    let q = c.args.self.ended in
    let h = after_digit q _ _ _ _ c.requires g in
    let h2 = after_digit q _ _ _ _ h g2 in
    number_one _ _ _ c.requires _ refl _ _ g c.digits_more.result
    (more_one _ _ _ h _ (omega arith) _ _ _ (omega arith) g2 c.digits_more.result
    (more_one _ _ _ (omega arith) _ (omega arith) _ _ _ (digit_some _ _ _ _ g2 (omega arith)) g3 c.digits_more.result c.digits_more.ensures))
