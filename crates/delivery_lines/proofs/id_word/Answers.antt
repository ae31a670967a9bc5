-- `id_word` gives the four bytes of word k: what `id_bytes` says, of the word that `word_at` gives.
use mathlib.Core.Path.{◌∙◌, ap}
use Rattle.file_text_lines.specs.Entries.{id_bytes}
use Rattle.delivery_lines.proofs.id_word.Goals as goal

pub returns : goal.returns
returns c = c.id_bytes.ensures ∙ ap id_bytes c.word_at.ensures
