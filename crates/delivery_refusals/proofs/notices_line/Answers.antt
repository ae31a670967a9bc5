-- The start of a notice's line is `notices.txt:` and the line's number, on an empty line: what the three calls add, joined.
use Rattle.file_text_print.proofs.Building.{then, first}
use Rattle.delivery_refusals.specs.Refusals.{notices_name}
use Rattle.delivery_refusals.proofs.notices_line.Goals as goal

pub returns : goal.returns
unfolding notices_name
returns c = first c.empty_line.ensures (then c.with_bytes.ensures c.with_number.ensures)
