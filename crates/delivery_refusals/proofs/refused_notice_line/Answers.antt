-- The line of a refused call is the notice's start, `: NO `, the refusal's number, a space, the id and a line feed: what the six calls add, joined.
use Rattle.file_text_print.proofs.Building.{then, one}
use Rattle.delivery_refusals.specs.Refusals.{refused_notice_text}
use Rattle.delivery_refusals.proofs.refused_notice_line.Goals as goal

pub returns : goal.returns
unfolding refused_notice_text
returns c =
    then c.notices_line.ensures
    (then c.with_bytes-no.ensures
    (then c.with_decimal-number.ensures
    (then (one _ _ _ c.extend.ensures) (then c.with_id-whole.ensures (one _ _ _ c.extend-2.ensures)))))
