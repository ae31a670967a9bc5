-- The text is built piece by piece.
use Rattle.file_text_print.proofs.Building.{then}
use Rattle.file_text_told.specs.ComposeTexts.{at_line_text}
use Rattle.file_text_told.proofs.with_line.Goals as goal

pub returns : goal.returns
unfolding at_line_text
returns c = then c.with_bytes.ensures c.with_number.ensures
