-- A number above 65,535 is read as 65,535 (`short-large`); any other fits 16 bits and is read as it is (`short-small`).
use Rattle.history_replay.proofs.ReplayBuffer.{short-large, short-small}
use Rattle.history_replay.proofs.short_in.Goals as goal

pub returns-then-number-gt65535 : goal.returns-then-number-gt65535
returns-then-number-gt65535 c = short-large c.args.number c.if-number-gt65535.true

pub returns : goal.returns
returns c = short-small c.args.number c.if-number-gt65535.false
