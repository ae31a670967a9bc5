-- `command_in` gives the command of a line of any length: the bytes are fed to an empty line, and its command is that of the bytes by `any-length`.
use mathlib.Core.Path.{◌∙◌}
use Rattle.session_lines.proofs.LineFeeding.{any-length}
use Rattle.confirm_lines.proofs.command_in.Goals as goal

pub returns : goal.returns
returns c = c.command_of.ensures ∙ rw (c.feed-line.ensures, c.empty_line.ensures) (any-length _)
