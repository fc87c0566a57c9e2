-- `sheet::cursor::Sheet::digits_end` meets its contract. Assumes nothing.
use Rattle.sheet.proofs.OnePass.{more_none}
use Rattle.sheet.proofs.cursor.Sheet.digits_end.Goals as goal

pub returns-then-self-at : goal.returns-then-self-at
returns-then-self-at c = λ limit. more_none _ _ _ c.requires limit _ c.if-self-at.true
