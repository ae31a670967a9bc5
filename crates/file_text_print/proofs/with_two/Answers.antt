-- A line with a number in two digits more: the digit of its tens, then its last digit, by what the two calls of `with_digit` ensure.
use Rattle.file_text_print.proofs.Building.{then}
use Rattle.session_text.specs.TermsText.{in_two_digits}
use Rattle.file_text_print.proofs.with_two.Goals as goal

pub returns : goal.returns
unfolding in_two_digits
returns c = then c.with_digit.ensures c.with_digit-2.ensures
