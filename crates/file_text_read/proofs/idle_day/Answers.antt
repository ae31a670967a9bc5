-- The first day of a run without trading, with 6 alone.
use borrow.Author.Tests.{eq-eqb}
use Rattle.file_text_read.specs.Lists.{idle_day}
use Rattle.file_text_read.proofs.ListLines.{no-idle}
use Rattle.file_text_read.proofs.idle_day.Goals as goal

pub returns-then-refusal-eq6 : goal.returns-then-refusal-eq6
unfolding idle_day
returns-then-refusal-eq6 c = rw (eq-eqb _ 6 c.if-refusal-eq6.true) c.first_idle.ensures

pub returns : goal.returns
returns c = no-idle _ _ c.if-refusal-eq6.false
