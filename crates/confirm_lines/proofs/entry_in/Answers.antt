-- `entry_in` reads the line of a weekly product as a Friday's and of another as a
-- month's: each return cites what `is_weekly` said and what the reader of its entry says.
use mathlib.Core.Path.{◌∙◌, sym}
use Rattle.confirm_lines.specs.ListingLines.{entry_in}
use Rattle.confirm_lines.proofs.entry_in.Goals as goal

pub returns-then-is_weekly : goal.returns-then-is_weekly
unfolding entry_in
returns-then-is_weekly c = rw (sym c.is_weekly.ensures ∙ c.if-is_weekly.true) c.friday_entry.ensures

pub returns : goal.returns
unfolding entry_in
returns c = rw (sym c.is_weekly.ensures ∙ c.if-is_weekly.false) c.month_entry.ensures
