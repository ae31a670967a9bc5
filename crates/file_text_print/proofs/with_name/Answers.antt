-- The line has the name of the maturity more: the date of its Friday for a weekly kind, else its month.
-- The answer of `is_weekly` chooses the same side of `name_text` as the branch of the code, and each side cites the call that writes it.
use mathlib.Core.Path.{◌∙◌, sym}
use Rattle.session_text.specs.TermsText.{name_text}
use Rattle.file_text_print.proofs.with_name.Goals as goal

pub returns-then-is_weekly : goal.returns-then-is_weekly
unfolding name_text
returns-then-is_weekly c = rw (sym c.is_weekly.ensures ∙ c.if-is_weekly.true) c.with_day.ensures

pub returns : goal.returns
unfolding name_text
returns c = rw (sym c.is_weekly.ensures ∙ c.if-is_weekly.false) c.with_month.ensures
