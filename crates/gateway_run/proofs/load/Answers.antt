-- A refused announcement has the same text for every input, and nothing was read; an accepted one is a state with no blocks read.
use mathlib.Core.Path.{refl}
use Rattle.file_intake_text.proofs.Pieces.{begins, says-announced}
use Rattle.gateway_run.proofs.load.Goals as goal

pub returns-then-first-ne0 : goal.returns-then-first-ne0
returns-then-first-ne0 c =
    says-announced _ _ _ _ c.announce-first.ensures c.if-first-ne0.true c.refused-ended.ensures c.nothing_read-input.ensures.1
    c.nothing_read-input.ensures.2

pub read_blocks-requires : goal.read_blocks-requires
read_blocks-requires c = begins _ _ c.announce-first.ensures c.if-first-ne0.false _ refl

pub returns : goal.returns
returns c = c.read_blocks.ensures
