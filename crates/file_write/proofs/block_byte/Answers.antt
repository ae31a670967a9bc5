-- A byte of a block before its check: of a calendar block for the first `years` blocks, else of a product block.
-- The two returns are the two cases of `block_byte`; what the calls require follows from this function's requirement, by search.
use native.Mathlib.Omega.{arith}
use borrow.Author.Tests.{lt-ltb, le-ltb}
use Rattle.file_draft.specs.Drafts.{block_byte}
use Rattle.file_write.proofs.block_byte.Goals as goal

pub returns-then-k-years : goal.returns-then-k-years
unfolding block_byte
returns-then-k-years c =
    rw (lt-ltb c.args.k c.args.cover.years (omega arith)) c.calendar_byte.ensures

pub returns : goal.returns
unfolding block_byte
returns c =
    rw (le-ltb c.args.k c.args.cover.years (omega arith)) c.product_byte.ensures
