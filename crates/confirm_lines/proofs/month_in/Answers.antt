-- `month_in` reads a month as the command of a line of `R`, a space, the bytes
-- and `-01`, which names its first day; by `month-read` this is `month_in`.
use mathlib.Core.Path.{◌∙◌}
use Rattle.confirm_lines.proofs.Names.{month-read}
use Rattle.confirm_lines.proofs.month_in.Goals as goal

pub returns : goal.returns
returns c =
    c.command_of.ensures ∙ rw (
      c.extend-first.ensures,
      c.extend-2.ensures,
      c.extend.ensures,
      c.feed-line.ensures,
      c.roll_begun.ensures,
    ) (month-read _)
