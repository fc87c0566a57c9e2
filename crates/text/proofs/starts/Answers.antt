-- `text::starts` meets its contract. Assumes nothing.
use Rattle.std.proofs.Common.{◌≡◌, ◌-◌, take, ap, ◌∙◌, arith}
use Rattle.text.specs.Lines.{same, before}
use Rattle.text.proofs.Parts.{end_within, first_field, same_as, head_same}
use Rattle.text.proofs.starts.Goals as goal

pub slice_bounds-eq-end : goal.slice_bounds-eq-end
slice_bounds-eq-end c = omega (arith, end_within (take (c.min.result - 0) c.args.line.now) 9 0 (omega arith), c.find.ensures)

pub returns : goal.returns
returns c =
    let e : c.find.result - 0 ≡ before 9 (take (c.min.result - 0) c.args.line.now) = omega (arith, c.find.ensures) in
    (rw e at c.eq.ensures) ∙ same_as _ _ ∙ head_same c.args.line.now c.args.word.now (c.min.result - 0) (λ g. omega (arith, c.min.ensures)) ∙ (ap (λ f. same f c.args.word.now) (first_field c.args.line.now))
