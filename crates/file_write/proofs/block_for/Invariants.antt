-- The loop keeps: of the 512 bytes of `body` those before j are the block's and the others zero (`Filled`). With the check that
-- `checked` writes after them they are the block of the definition (block_made).
use Rattle.calendar.specs.Trading.{calendar_of_maps}
use Rattle.file_calendar.proofs.Filling.{Filled}
use Rattle.file_draft.specs.Drafts.{block_byte}
use Rattle.file_write.proofs.block_for.Given as goal

abbrev pub invariant-loop-j : goal.invariant-loop-j
invariant-loop-j l = Filled (block_byte (calendar_of_maps l.cover l.closed l.exchange) l.records l.k) 512 l.j l.body
