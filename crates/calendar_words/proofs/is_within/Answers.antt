-- Whether a map has only days that another has: `all-within` turns the question of 736 bytes into that of 5,888 slots.
use Rattle.calendar_words.proofs.MapBytes.{all-within}
use mathlib.Core.Path.{◌∙◌}
use Rattle.calendar_words.proofs.is_within.Goals as goal

pub returns : goal.returns
returns c = c.all_beyond.ensures ∙ all-within _ _
