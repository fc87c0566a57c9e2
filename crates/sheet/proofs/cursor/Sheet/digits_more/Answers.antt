-- `sheet::cursor::Sheet::digits_more` meets its contract: what is read from `i` on, after the digits passed, is what is read from `at` on. Assumes nothing.
use mathlib.Core.Path.{refl, sym, ◌∙◌}
use Rattle.text.proofs.Digits.{digit_some}
use Rattle.sheet.proofs.OnePass.{after_digit, more_one}
use Rattle.sheet.proofs.cursor.Sheet.digits_more.Goals as goal

pub loop-v-init : goal.loop-v-init
loop-v-init c = record { within = c.requires.in_text; some = c.requires.positive; back = λ r p. p }

pub digits_end-requires : goal.digits_end-requires
digits_end-requires c = c.loop-v.invariant.within

pub returns-in_default : goal.returns-in_default
returns-in_default c = c.loop-v.invariant.back c.digits_end.result (c.digits_end.ensures c.args.limit)

pub loop-v-preserved : goal.loop-v-preserved
loop-v-preserved c =
    let g = sym c.grown.ensures ∙ c.in-Some.is in
    let l = c.loop-v.invariant in
    record {
      within = after_digit c.args.self.ended _ _ _ _ l.within g;
      some = digit_some _ _ _ _ g l.some;
      back = λ r p. l.back r (more_one _ _ _ l.within _ refl _ _ _ l.some g r p);
    }
