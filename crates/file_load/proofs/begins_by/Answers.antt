-- Whether the file has a block that begins with no record, or with an id that is not after another.
-- Each `return` is the next part of `begins_by` and cites the tests before it; the last negates what `id_rises` answers of the id there.
use borrow.Author.Tests.{lt-ltb, le-ltb}
use Rattle.questions.proofs.Bools.{said-no, said-yes}
use Rattle.file_load.specs.Halves.{begins_by}
use Rattle.file_load.proofs.begins_by.Goals as goal

pub returns-then-file-block : goal.returns-then-file-block
unfolding begins_by
returns-then-file-block c = simp (le-ltb _ _ c.if-file-block.true)

pub returns-then-not-is_record : goal.returns-then-not-is_record
unfolding begins_by
returns-then-not-is_record c =
    simp (lt-ltb _ _ c.if-file-block.false, said-no c.is_record.ensures c.if-not-is_record.true)

pub returns : goal.returns
unfolding begins_by
returns c =
    simp (
      lt-ltb _ _ c.if-file-block.false,
      said-yes c.is_record.ensures c.if-not-is_record.false,
      c.id_rises.ensures,
      c.id_at.ensures,
    )
