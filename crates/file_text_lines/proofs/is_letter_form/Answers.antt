-- Whether a line has so many words and the first has one byte: the answers of `word_count` and `word_length` are the parts of `letter_form`.
use Rattle.file_text_lines.specs.Entries.{letter_form}
use Rattle.file_text_lines.proofs.is_letter_form.Goals as goal

pub returns : goal.returns
unfolding letter_form
returns c = rw (c.word_length.ensures, c.word_count.ensures)
