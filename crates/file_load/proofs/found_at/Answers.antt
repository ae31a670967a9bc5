-- The place, where its block is one of the file's, else nothing: the two returns are the two cases of `found_at`.
use borrow.Author.Tests.{lt-ltb, le-ltb}
use Rattle.file_load.specs.Load.{found_at}
use Rattle.file_load.proofs.found_at.Goals as goal

pub returns-then-block-file : goal.returns-then-block-file
unfolding found_at
returns-then-block-file c = simp (lt-ltb _ _ c.if-block-file.true)

pub returns : goal.returns
unfolding found_at
returns c = simp (le-ltb _ _ c.if-block-file.false)
