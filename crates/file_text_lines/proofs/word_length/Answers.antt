-- How many bytes word k has: the length of what `word_at` ensures.
use mathlib.Core.Path.{ap}
use lib.ListN.{length}
use Rattle.file_text_lines.proofs.word_length.Goals as goal

pub returns : goal.returns
returns c = ap length c.word_at-word.ensures
