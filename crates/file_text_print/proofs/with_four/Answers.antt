-- A line with a number in four digits more: its first two and then its last two, by what the two calls of `with_two` ensure.
use Rattle.file_text_print.proofs.Building.{then}
use Rattle.session_text.specs.TermsText.{in_four_digits}
use Rattle.file_text_print.proofs.with_four.Goals as goal

pub returns : goal.returns
unfolding in_four_digits
returns c = then c.with_two.ensures c.with_two-2.ensures
