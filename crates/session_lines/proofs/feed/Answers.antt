-- `feed` gives a line with all bytes of a slice more. The loop keeps: the line so far, fed with the bytes that are left, is the first
-- line fed with all. A full line takes no more (`fed-full`); a turn is `fed-step`, and at the end nothing is left (`fed-done`).
use mathlib.Core.Path.{sym, ◌∙◌}
use Rattle.session_lines.proofs.LineFeeding.{fed-full, fed-step, fed-done}
use Rattle.session_lines.proofs.feed.Goals as goal

pub returns-then-n-ge64 : goal.returns-then-n-ge64
returns-then-n-ge64 c = sym (fed-full _ _ c.if-n-ge64.true) ∙ c.loop-byte.invariant

pub loop-byte-preserved : goal.loop-byte-preserved
loop-byte-preserved c = fed-step _ _ _ _ c.loop-byte-test.true c.if-n-ge64.false ∙ c.loop-byte.invariant

pub returns : goal.returns
returns c = sym (fed-done _ _ _ c.loop-byte-test.false) ∙ c.loop-byte.invariant
