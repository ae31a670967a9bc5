-- `month_name` prints a month as `terms` does: the six digits and the dash of
-- `month_text`, each digit by what `digit` says; the year and the month fit 16 bits.
use Rattle.session_text.specs.TermsText.{month_text, year_month, in_four_digits, in_two_digits}
use Rattle.confirm_lines.proofs.month_name.Goals as goal

pub returns : goal.returns
unfolding month_text year_month in_four_digits in_two_digits
returns c = simp (
  c.digit-6.ensures,
  c.digit-5.ensures,
  c.digit-4.ensures,
  c.digit-3.ensures,
  c.digit-2.ensures,
  c.digit.ensures,
)
