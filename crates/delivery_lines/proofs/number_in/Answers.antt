-- `number_in` gives the number that word k is: what `read_number` says, of the word that `word_at` gives.
use mathlib.Core.Path.{◌∙◌, ap}
use Rattle.delivery_lines.specs.NoticeLines.{number_held}
use Rattle.delivery_lines.proofs.number_in.Goals as goal

pub returns : goal.returns
returns c = c.read_number.ensures ∙ ap number_held c.word_at.ensures
