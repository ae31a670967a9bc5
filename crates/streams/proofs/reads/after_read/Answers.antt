-- The two cases of what is known after a read.
use Rattle.std.proofs.Common.{rules}
use Rattle.streams.specs.Inputs.{input_after}
use Rattle.streams.proofs.reads.after_read.Goals as goal

pub returns-then-read-eq0 : goal.returns-then-read-eq0
unfolding input_after
returns-then-read-eq0 c = search rules

pub returns : goal.returns
unfolding input_after
returns c = search rules
