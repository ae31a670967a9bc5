-- Nothing was sent, and nothing was told.
use Rattle.compose_run.proofs.output.nothing_handed.Goals as goal

pub returns : goal.returns
returns c = (c.nothing_sent-sent.ensures.1, c.nothing_told-told.ensures)
