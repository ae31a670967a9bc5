-- Whether there is another line, and room for it. The three returns are: no line more, a buffer under 64 bytes, and whether 64 bytes are left.
use Rattle.file_text_print.proofs.PrintedLines.{no_more, too_short, room-is}
use Rattle.file_text_print.proofs.goes_on.Goals as goal

pub returns-then-count-n : goal.returns-then-count-n
returns-then-count-n c = no_more _ _ _ _ c.if-count-n.true

pub returns-then-out-lt64 : goal.returns-then-out-lt64
returns-then-out-lt64 c = too_short _ _ _ _ c.if-out-lt64.true

pub returns : goal.returns
returns c = room-is _ _ _ _ c.if-count-n.false c.if-out-lt64.false
