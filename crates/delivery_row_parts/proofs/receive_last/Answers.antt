-- A last line with bytes is taken.
use Rattle.delivery_row_parts.proofs.PartsTaken.{last_none, last_some}
use Rattle.delivery_row_parts.proofs.receive_last.Goals as goal

pub returns-then-line-eq0 : goal.returns-then-line-eq0
returns-then-line-eq0 c = last_none _ c.args.k _ c.if-line-eq0.true

pub returns : goal.returns
returns c =
    last_some _
    c.args.k _ _ _
    c.if-line-eq0.false c.receive_told.ensures
