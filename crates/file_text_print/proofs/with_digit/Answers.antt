-- A line with the last decimal digit of a number more: the byte that `extend` adds (`one`). That it fits a byte is found by search.
use Rattle.file_text_print.proofs.Building.{one}
use Rattle.file_text_print.proofs.with_digit.Goals as goal

pub returns : goal.returns
returns c = one _ _ _ c.extend.ensures
