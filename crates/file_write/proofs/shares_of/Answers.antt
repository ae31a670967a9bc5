-- The whole shares of a size, 0 where it is above all that a record can have: the two returns are the two cases of `shares_of`.
use native.Mathlib.Omega.{arith}
use borrow.Author.Tests.{le-leb, lt-leb}
use Rattle.file_write.specs.Writing.{shares_of}
use Rattle.file_write.proofs.shares_of.Goals as goal

pub returns-then-size-gt655359999 : goal.returns-then-size-gt655359999
unfolding shares_of
returns-then-size-gt655359999 c = rw (lt-leb c.args.size 655359999 (omega arith))

pub returns : goal.returns
unfolding shares_of
returns c = rw (le-leb c.args.size 655359999 (omega arith))
