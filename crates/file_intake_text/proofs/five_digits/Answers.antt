-- Each character is the digit at its place.
use Rattle.session_text.specs.TermsText.{in_two_digits, in_four_digits}
use Rattle.file_intake_text.specs.GatewayTexts.{five_digits}
use Rattle.file_intake_text.proofs.five_digits.Goals as goal

pub returns : goal.returns
unfolding five_digits in_four_digits in_two_digits
returns c =
    rw (
      c.digit-5.ensures,
      c.digit-4.ensures,
      c.digit-3.ensures,
      c.digit-2.ensures,
      c.digit.ensures,
    )
