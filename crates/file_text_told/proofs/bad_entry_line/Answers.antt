-- The text is built piece by piece.
use Rattle.file_text_print.proofs.Building.{then, one, first}
use Rattle.file_text_told.specs.ComposeTexts.{bad_entry_text}
use Rattle.file_text_told.proofs.bad_entry_line.Goals as goal

pub returns : goal.returns
unfolding bad_entry_text
returns c =
    first c.empty_line.ensures
    (then c.with_bytes-begun.ensures (then c.with_number-whole.ensures (one _ _ _ c.extend.ensures)))
