-- `text::find` meets its contract: the part from `at` on is searched. Assumes nothing.
use Rattle.std.proofs.Common.{◌≡◌, ℕ, ◌+◌, Some, None, cond, eqb, ltb, length, drop, refl, ap, ◌∙◌, rules, tests}
use Rattle.std.specs.List.{position_or_len}
use Rattle.std.proofs.lemmas.Iterator.{YieldsList-from_slice}
use Rattle.std.proofs.lemmas.Iterator.Search.{position_from_yields_List}
use Rattle.text.specs.Lines.{before}
use Rattle.text.proofs.Parts.{first_found, tail_is}
use Rattle.text.proofs.find.Goals as goal

pub returns : goal.returns
returns c =
    let rest : c.unwrap_or-rest.result.now ≡ drop c.args.at c.args.s.now = rw c.unwrap_or-rest.ensures (tail_is c.args.s.now c.args.at c.get.result _ refl c.get.ensures.lookup.0) in
    let found : c.position.result ≡ cond (ltb (position_or_len (λ x. eqb x c.args.b) c.unwrap_or-rest.result.now) (length c.unwrap_or-rest.result.now)) (Some (position_or_len (λ x. eqb x c.args.b) c.unwrap_or-rest.result.now)) None = position_from_yields_List (λ x. eqb x c.args.b) _ _ c.position.result c.position.ensures.ran (YieldsList-from_slice c.unwrap_or-rest.result.now cc) (λ x b q k. search (rules, tests)) in
    ap (λ (n : ℕ). c.args.at + n) (c.unwrap_or.ensures ∙ first_found c.args.b c.unwrap_or-rest.result.now c.position.result found ∙ ap (before c.args.b) rest)
