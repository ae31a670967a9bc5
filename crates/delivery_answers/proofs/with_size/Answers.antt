-- `with_size` adds the whole number of a size and its part in 1/10,000: what the two calls add, joined as in `size_text`.
use Rattle.file_text_print.proofs.Building.{then}
use Rattle.delivery_answers.specs.Replies.{size_text}
use Rattle.delivery_answers.proofs.with_size.Goals as goal

pub returns : goal.returns
unfolding size_text
returns c = then c.with_number-whole.ensures c.with_part.ensures
