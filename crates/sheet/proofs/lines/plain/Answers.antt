-- `sheet::lines::plain` meets its contract. Assumes nothing.
use Rattle.std.proofs.Common.{◌≡◌, ℕ, ◌&&◌, List, [], ◌∷◌, leb, refl, ap, ◌∙◌, rules, tests}
use Rattle.std.specs.List.{list_all}
use Rattle.std.proofs.lemmas.Iterator.{YieldsList-from_slice}
use Rattle.std.proofs.lemmas.Iterator.Search.{all_from_yields_List}
use Rattle.sheet.specs.Records.{plain}
use Rattle.sheet.proofs.lines.plain.Goals as goal

plain_all : (xs : List ℕ) → list_all (λ x. leb 32 x && leb x 126) xs ≡ plain xs
unfolding plain
plain_all [] = refl
plain_all (x ∷ xs) = ap (λ t. (leb 32 x && leb x 126) && t) (plain_all xs)

pub returns : goal.returns
returns c =
    all_from_yields_List (λ x. leb 32 x && leb x 126) _ _ c.all.result c.all.ensures.ran (YieldsList-from_slice c.args.label.now cc) (λ x b q k. search (rules, tests))
    ∙ plain_all c.args.label.now
