-- The date of a day number: `reply_of_date` of the answer that `date_of_day` gives.
use mathlib.Core.Path.{◌∙◌}
use Rattle.scullpouch.proofs.scullpouch_date.Goals as goal

pub returns : goal.returns
returns c = c.reply_of_date.ensures ∙ c.date_of_day.ensures
