-- The text is built piece by piece.
use Rattle.file_text_print.proofs.Building.{then}
use Rattle.file_text_told.specs.ComposeTexts.{from_text}
use Rattle.file_text_told.proofs.with_from.Goals as goal

pub returns : goal.returns
unfolding from_text
returns c = then c.with_bytes.ensures c.with_day.ensures
