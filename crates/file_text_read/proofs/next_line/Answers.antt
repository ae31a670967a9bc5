-- The number of the next line, at most 999999999: the two returns are the two cases of `next_line`.
use mathlib.Core.Path.{refl}
use borrow.Author.Tests.{lt-ltb, le-ltb}
use Rattle.file_text_read.specs.Lists.{next_line}
use Rattle.file_text_read.proofs.next_line.Goals as goal

pub returns-then-lines-lt999999999 : goal.returns-then-lines-lt999999999
unfolding next_line
returns-then-lines-lt999999999 c = rw (lt-ltb _ 999999999 c.if-lines-lt999999999.true) refl

pub returns : goal.returns
unfolding next_line
returns c = rw (le-ltb _ 999999999 c.if-lines-lt999999999.false) refl
