-- `row_line` gives the row of a maturity: the id, the number, the name, the day and the days back, with
-- commas between and a line feed at the end. What each call adds is joined in the order of `row_text`.
use Rattle.file_text_print.proofs.Building.{then, one, first}
use Rattle.delivery_rows.specs.Delivery.{row_text}
use Rattle.delivery_rows.proofs.row_line.Goals as goal

pub returns : goal.returns
unfolding row_text
returns c =
    first c.empty_line.ensures
    (then c.with_id-first.ensures
    (then (one _ _ _ c.extend.ensures)
    (then c.with_decimal-number.ensures
    (then (one _ _ _ c.extend-2.ensures)
    (then c.with_name-name.ensures
    (then (one _ _ _ c.extend-3.ensures)
    (then c.with_day-day.ensures
    (then (one _ _ _ c.extend-4.ensures) (then c.with_decimal-back.ensures (one _ _ _ c.extend-5.ensures))))))))))
