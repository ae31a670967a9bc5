-- `with_eight` adds a number below 100,000,000 in eight digits: its first four and its last four, each of which fits 16 bits.
use Rattle.file_text_print.proofs.Building.{then}
use Rattle.delivery_answers.specs.Numbers.{in_eight_digits}
use Rattle.delivery_answers.proofs.with_eight.Goals as goal

pub returns : goal.returns
unfolding in_eight_digits
returns c = then c.with_four-first.ensures c.with_four.ensures
