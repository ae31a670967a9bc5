-- The day number of a date: `reply_of_day` of the answer that `day_of_date` gives.
use mathlib.Core.Path.{◌∙◌}
use Rattle.scullpouch.proofs.scullpouch_day.Goals as goal

pub returns : goal.returns
returns c = c.reply_of_day.ensures ∙ c.day_of_date.ensures
