-- The line of a refused file is `master.bin: NO `, the refusal's number and a line feed: what the four calls add, joined.
use Rattle.file_text_print.proofs.Building.{then, one, first}
use Rattle.delivery_refusals.specs.Refusals.{master_text}
use Rattle.delivery_refusals.proofs.master_line.Goals as goal

pub returns : goal.returns
unfolding master_text
returns c =
    first c.empty_line.ensures
    (then c.with_bytes-name.ensures (then c.with_decimal-number.ensures (one _ _ _ c.extend.ensures)))
