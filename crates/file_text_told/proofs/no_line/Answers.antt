-- The text is built piece by piece.
use Rattle.file_text_print.proofs.Building.{then, one, first}
use Rattle.file_text_told.specs.ComposeTexts.{refused_file_text}
use Rattle.file_text_told.proofs.no_line.Goals as goal

pub returns : goal.returns
unfolding refused_file_text
returns c =
    first c.empty_line.ensures
    (then c.with_bytes-no.ensures (then c.with_spaced-number.ensures
    (then c.with_where-whole.ensures (one _ _ _ c.extend.ensures))))
