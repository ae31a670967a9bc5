-- Whether a line has the eight words of a product: the answers of `is_letter_form` and the four `word_length` are the parts of `product_form`.
use Rattle.file_text_lines.specs.Entries.{product_form}
use Rattle.file_text_lines.proofs.is_product_form.Goals as goal

pub returns : goal.returns
unfolding product_form
returns c = rw (
  c.word_length-3.ensures,
  c.word_length-2.ensures,
  c.word_length.ensures,
  c.is_letter_form.ensures,
  c.word_length-id.ensures,
)
