-- `sheet::phases::read_flows` meets its contract. Assumes nothing.
use Rattle.std.proofs.Common.{◌-◌, length, drop, replicate}
use Rattle.model.specs.Arrows.{selves}
use Rattle.model.specs.Limits.{BOXES}
use Rattle.text.specs.Lines.{lines}
use Rattle.sheet.specs.Phases.{flows}
use Rattle.sheet.proofs.ArrowLines.{Flowing}
use Rattle.sheet.proofs.phases.read_flows.Given as goal

abbrev pub invariant-loop-cursor : goal.invariant-loop-cursor
invariant-loop-cursor l =
    Flowing l.sheet.text.now l.ids.ids.now (flows l.ids.ids.now (selves (length l.ids.ids.now) (replicate BOXES 0)) (lines (drop l.fn.first.at l.sheet.text.now)) l.fn.first.line) l.arrows l.cursor.0 l.cursor.1.0

abbrev pub decreases-loop-cursor : goal.decreases-loop-cursor
decreases-loop-cursor l = length l.sheet.text.now - l.cursor.0
