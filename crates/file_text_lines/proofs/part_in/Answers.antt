-- The ten-thousandths of the size that word k is: what `part_read` ensures of the word that `word_at` gives.
use mathlib.Core.Path.{ap, ◌∙◌}
use Rattle.file_text_lines.specs.Entries.{part_read}
use Rattle.file_text_lines.proofs.part_in.Goals as goal

pub returns : goal.returns
returns c = c.part_read.ensures ∙ ap part_read c.word_at.ensures
