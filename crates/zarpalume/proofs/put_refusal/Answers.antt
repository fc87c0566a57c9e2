-- `zarpalume::put_refusal` meets its contract. Assumes nothing.
use Rattle.std.proofs.Common.{◌≡◌, ◌∙◌, ap, arith}
use Rattle.text.specs.Number.{decimal}
use Rattle.text.proofs.Buffer.{same_as}
use Rattle.model.specs.Refusal.{number_of}
use Rattle.zarpalume.specs.Lines.{refused_line}
use Rattle.zarpalume.specs.Words as words
use Rattle.zarpalume.proofs.Writing.{pair_line}
use Rattle.zarpalume.proofs.put_refusal.Goals as goal

pub returns : goal.returns
returns c =
    let e : c.from-number.result ≡ number_of c.args.refused.refusal = c.from-number.ensures ∙ c.number.ensures in
    (same_as (pair_line words.refused (decimal _) (decimal _) ∙ ap (λ n. refused_line n c.args.refused.line) e) c.put_pair.ensures.0, omega arith)
