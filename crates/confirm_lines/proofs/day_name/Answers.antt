-- `day_name` prints a day as `terms` does: the eight digits and the two dashes of
-- `day_text`, each digit by what `digit` says, of the date that `date_or_zeros` gives.
use Rattle.session_text.specs.TermsText.{day_text, date_text, year_month, in_four_digits, in_two_digits}
use Rattle.confirm_lines.proofs.day_name.Goals as goal

pub returns : goal.returns
unfolding day_text date_text year_month in_four_digits in_two_digits
returns c = simp (
  c.digit-8.ensures,
  c.digit-7.ensures,
  c.digit-6.ensures,
  c.digit-5.ensures,
  c.digit-4.ensures,
  c.digit-3.ensures,
  c.digit-2.ensures,
  c.digit.ensures,
  c.date_or_zeros-date.ensures,
)
