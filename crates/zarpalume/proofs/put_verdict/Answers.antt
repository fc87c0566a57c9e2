-- `zarpalume::put_verdict` meets its contract. Assumes nothing.
use mathlib.Core.Path.{sym, subst, ap, ◌∙◌}
use borrow.Author.Rules.{rules}
use Rattle.text.proofs.Buffer.{same_as}
use Rattle.zarpalume.specs.Lines.{Small}
use Rattle.zarpalume.specs.Verdict.{found, Few, blank}
use Rattle.zarpalume.proofs.Bounds.{small, few}
use Rattle.zarpalume.proofs.Joined.{verdict_is}
use Rattle.zarpalume.proofs.put_verdict.Goals as goal

pub put_lines-requires : goal.put_lines-requires
put_lines-requires c =
    let a = c.args in (
      search rules,
      c.requires.1,
      subst Small (sym c.judge-judged.ensures) (small a.model a.next.now a.outputs.now a.views.now),
      subst Few (sym (c.unwrap_or-needs.ensures ∙ ap found c.needed.ensures.value)) (few a.model.machine a.next.now a.outputs.now blank),
    )

pub returns : goal.returns
returns c =
    let a = c.args in
    (same_as (verdict_is a.model a.next.now a.outputs.now a.views.now _ _ _ c.judge-judged.ensures (c.unwrap_or-needs.ensures ∙ ap found c.needed.ensures.value) c.needed.ensures.list_after) c.put_lines.ensures.0, c.put_lines.ensures.1)
