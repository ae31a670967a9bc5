-- `price_in` gives the price that word k is: what `read_price` says, of the word that `word_at` gives.
use mathlib.Core.Path.{◌∙◌, ap}
use Rattle.delivery_lines.specs.NoticeLines.{price_held}
use Rattle.delivery_lines.proofs.price_in.Goals as goal

pub returns : goal.returns
returns c = c.read_price.ensures ∙ ap price_held c.word_at.ensures
