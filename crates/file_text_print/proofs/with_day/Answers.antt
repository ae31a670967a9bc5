-- A line with a day by its date more: year, month and day with hyphens between them, one text after the other (`then`).
-- The date is the one that `date_or_zeros` ensures.
use Rattle.file_text_print.proofs.Building.{then, one}
use Rattle.session_text.specs.TermsText.{year_month, date_text, day_text}
use Rattle.file_text_print.proofs.with_day.Goals as goal

pub returns : goal.returns
unfolding day_text date_text year_month
returns c =
    rw (← c.date_or_zeros-date.ensures)
    (then (then c.with_four-year.ensures (then (one _ _ _ c.extend.ensures) c.with_two-month.ensures))
    (then (one _ _ _ c.extend-2.ensures) c.with_two.ensures))
