-- `with_month` adds the year in four digits, a dash and the month in two, which are `month_text`; both numbers fit 16 bits.
use Rattle.file_text_print.proofs.Building.{then, one}
use Rattle.session_text.specs.TermsText.{year_month, month_text}
use Rattle.file_text_print.proofs.with_month.Goals as goal

pub returns : goal.returns
unfolding month_text year_month
returns c = then c.with_four-year.ensures (then (one _ _ _ c.extend.ensures) c.with_two.ensures)
