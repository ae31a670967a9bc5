-- What is said of a list: `reply_of_verdict` of the library's verdict by the table that `unflat_table` gives.
use mathlib.Core.Path.{◌∙◌}
use Rattle.scullpouch.proofs.scullpouch_judge.Goals as goal

pub returns : goal.returns
returns c = c.reply_of_verdict.ensures ∙ (rw c.unflat_table.ensures at c.judge.ensures)
