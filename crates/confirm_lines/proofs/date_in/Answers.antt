-- `date_in` reads a date as the command of a line of `R`, a space and the bytes; by `date-read` this is `date_in`.
use mathlib.Core.Path.{◌∙◌}
use Rattle.confirm_lines.proofs.Names.{date-read}
use Rattle.confirm_lines.proofs.date_in.Goals as goal

pub returns : goal.returns
returns c = c.command_of.ensures ∙ rw (c.feed-line.ensures, c.roll_begun.ensures) (date-read _)
