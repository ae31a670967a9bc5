-- The date of a day, and zeros for a number that is no day: in both cases of the answer the definition's value (`date-or-zeros`).
use mathlib.Core.Path.{◌∙◌}
use Rattle.session_text.proofs.TermsTexts.{date-or-zeros}
use Rattle.session_text.proofs.date_or_zeros.Goals as goal

pub returns : goal.returns
returns c = c.unwrap_or.ensures ∙ date-or-zeros _ _ c.date_of_day.ensures
