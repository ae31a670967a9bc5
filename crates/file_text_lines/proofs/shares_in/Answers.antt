-- The shares of the size that word k is: what `shares_read` ensures of the word that `word_at` gives.
use mathlib.Core.Path.{ap, ◌∙◌}
use Rattle.file_text_lines.specs.Entries.{shares_read}
use Rattle.file_text_lines.proofs.shares_in.Goals as goal

pub returns : goal.returns
returns c = c.shares_read.ensures ∙ ap shares_read c.word_at.ensures
