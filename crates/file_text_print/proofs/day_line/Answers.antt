-- The line of a day: X where it is in the second map (day-runs), else C where it is closed (day-closed), else no bytes (day-none).
use Rattle.file_text_print.proofs.Building.{nothing, day-runs, day-closed, day-none}
use mathlib.Core.Path.{sym, ◌∙◌}
use Rattle.file_text_print.proofs.day_line.Goals as goal

pub returns-then-is_in_second_map : goal.returns-then-is_in_second_map
returns-then-is_in_second_map c = day-runs _ _ _ (sym c.is_in_second_map.ensures ∙ c.if-is_in_second_map.true) c.marked_line.ensures

pub returns-then-is_closed : goal.returns-then-is_closed
returns-then-is_closed c =
    day-closed _ _ _ (sym c.is_in_second_map.ensures ∙ c.if-is_in_second_map.false) (sym c.is_closed.ensures ∙ c.if-is_closed.true)
    c.marked_line-then-is_closed.ensures

pub returns : goal.returns
returns c =
    day-none _ _ _ (sym c.is_in_second_map.ensures ∙ c.if-is_in_second_map.false) (sym c.is_closed.ensures ∙ c.if-is_closed.false)
    (nothing _ c.empty_line.ensures)
