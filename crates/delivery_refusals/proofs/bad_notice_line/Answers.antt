-- The line of a bad notice is the name of the notices with its number, and `: BAD` with a line feed after it: what the two calls add, joined.
use Rattle.file_text_print.proofs.Building.{then}
use Rattle.delivery_refusals.specs.Refusals.{bad_notice_text}
use Rattle.delivery_refusals.proofs.bad_notice_line.Goals as goal

pub returns : goal.returns
unfolding bad_notice_text
returns c = then c.notices_line.ensures c.with_bytes.ensures
