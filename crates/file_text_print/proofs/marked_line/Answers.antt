-- The line of a closed day: its letter, a space, the date and a line feed, one text after the other (`then`), from an empty line (`first`).
use Rattle.file_text_print.proofs.Building.{then, one, first}
use Rattle.file_text_print.specs.Contents.{marked_text}
use Rattle.file_text_print.proofs.marked_line.Goals as goal

pub returns : goal.returns
unfolding marked_text
returns c =
    first c.empty_line.ensures
    (then (then (one _ _ _ c.extend-begun.ensures) (one _ _ _ c.extend.ensures))
    (then c.with_day-date.ensures (one _ _ _ c.extend-2.ensures)))
