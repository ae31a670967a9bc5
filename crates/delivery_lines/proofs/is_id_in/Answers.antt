-- `is_id_in` says whether word k is an id: what `is_id` says, of the word that `word_at` gives.
use mathlib.Core.Path.{◌∙◌, ap}
use Rattle.delivery_lines.specs.NoticeLines.{is_id}
use Rattle.delivery_lines.proofs.is_id_in.Goals as goal

pub returns : goal.returns
returns c = c.is_id.ensures ∙ ap is_id c.word_at.ensures
