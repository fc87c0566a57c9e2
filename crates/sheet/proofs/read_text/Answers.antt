-- `sheet::read_text` meets its contract. Assumes nothing.
use Rattle.std.proofs.Common.{◌∙◌, length, arith, le-ltb, lt-ltb, le-leb, ne_eqb}
use borrow.Author.Tests.{lt-leb}
use Rattle.sheet.specs.Reading.{sheet_text}
use Rattle.sheet.proofs.First.{over_zeros}
use Rattle.sheet.proofs.read_text.Goals as goal
use Rattle.sheet.proofs.read_text.Goals.{else-n-gt0-via-then-n-gt0+then-n-le-SHEET_BYTES+else-text-n-eq10, else-n-gt0-via-then-n-gt0+else-n-le-SHEET_BYTES, else-n-gt0-via-else-n-gt0}

pub returns-then-text-n-eq10 : goal.returns-then-text-n-eq10
returns-then-text-n-eq10 c = c.read_lines.ensures ∙ over_zeros c.args.text.now c.args.next.now c.args.outputs.now c.args.views.now c.requires.next_zero c.requires.outputs_zero c.requires.views_zero (omega arith) (omega arith) c.if-text-n-eq10.true

pub returns-else-n-gt0 : goal.returns-else-n-gt0
unfolding sheet_text
returns-else-n-gt0 c = elim c.else-n-gt0.branch [
  | else-n-gt0-via-then-n-gt0+then-n-le-SHEET_BYTES+else-text-n-eq10 w ↦ rw (lt-ltb 0 (length c.args.text.now) w.if-n-gt0.true, le-leb _ _ w.if-n-le-SHEET_BYTES.true, ne_eqb _ _ w.if-text-n-eq10.false)
  | else-n-gt0-via-then-n-gt0+else-n-le-SHEET_BYTES w ↦ rw (lt-ltb 0 (length c.args.text.now) w.if-n-gt0.true, lt-leb _ _ w.if-n-le-SHEET_BYTES.false)
  | else-n-gt0-via-else-n-gt0 w ↦ rw (le-ltb 0 (length c.args.text.now) w.if-n-gt0.false)
]
