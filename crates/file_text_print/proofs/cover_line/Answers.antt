-- The line of a cover: letter, first year, years and line feed, one text after the other (`then`), from an empty line (`first`).
use Rattle.file_text_print.proofs.Building.{then, one, first}
use Rattle.file_text_print.specs.Contents.{cover_text}
use Rattle.file_text_print.proofs.cover_line.Goals as goal

pub returns : goal.returns
unfolding cover_text
returns c =
    first c.empty_line.ensures
    (then (one _ _ _ c.extend-letter.ensures)
    (then c.with_spaced-first.ensures (then c.with_spaced-years.ensures (one _ _ _ c.extend.ensures))))
