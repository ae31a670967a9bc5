-- A byte of a calendar block before its check: header, first map, second map, zero.
-- The four returns are the cases of `calendar_byte`, by where j lies: below 16, below 62, below 108, or after; each cites the tests before it.
use native.Mathlib.Omega.{arith}
use borrow.Author.Tests.{lt-ltb, le-ltb}
use Rattle.file_draft.specs.Drafts.{calendar_byte}
use Rattle.file_write.proofs.calendar_byte.Goals as goal

-- ---- the header
pub returns-then-j-lt16 : goal.returns-then-j-lt16
unfolding calendar_byte
returns-then-j-lt16 c =
    let j = c.args.j in
    rw (lt-ltb j 16 (omega arith)) c.header_byte.ensures

-- ---- the two maps
pub returns-then-j-lt62 : goal.returns-then-j-lt62
unfolding calendar_byte
returns-then-j-lt62 c =
    let j = c.args.j in
    rw (le-ltb j 16 (omega arith), lt-ltb j 62 (omega arith)) c.byte_at.ensures

pub returns-then-j-lt108 : goal.returns-then-j-lt108
unfolding calendar_byte
returns-then-j-lt108 c =
    let j = c.args.j in
    rw (le-ltb j 16 (omega arith), le-ltb j 62 (omega arith), lt-ltb j 108 (omega arith)) c.byte_at-then-j-lt108.ensures

-- ---- the zeros after them
pub returns : goal.returns
unfolding calendar_byte
returns c =
    let j = c.args.j in
    rw (le-ltb j 16 (omega arith), le-ltb j 62 (omega arith), le-ltb j 108 (omega arith))
