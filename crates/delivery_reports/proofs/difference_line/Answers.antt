-- The line is the text of a key that differs: id, name, reason, delivered and right, with commas between and a line feed at the end.
-- Each call adds its part to the line before it; `first`, `then` and `one` put the eleven parts together in the order of `difference_text`.
use Rattle.delivery_reports.specs.Reports.{difference_text}
use Rattle.file_text_print.proofs.Building.{then, one, first}
use Rattle.delivery_reports.proofs.difference_line.Goals as goal

-- ---- the line
pub returns : goal.returns
unfolding difference_text
returns c =
    first c.empty_line.ensures
    (then c.with_id-begun.ensures
    (then (one _ _ _ c.extend.ensures)
    (then c.with_name-name.ensures
    (then (one _ _ _ c.extend-2.ensures)
    (then c.with_why-reason.ensures
    (then (one _ _ _ c.extend-3.ensures)
    (then c.with_delivered-delivered.ensures
    (then (one _ _ _ c.extend-4.ensures) (then c.with_right-right.ensures (one _ _ _ c.extend-5.ensures))))))))))
