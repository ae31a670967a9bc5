-- Shown: the command is the definition's. A line that begins with O is an open or another line (`begins-o`), any other a
-- roll, a close or another line (`begins-else`).
use Rattle.session_lines.proofs.CommandForms.{begins-o, begins-else}
use Rattle.session_lines.specs.CommandLines.{line_command}
use mathlib.Core.Path.{◌∙◌}
use Rattle.session_lines.proofs.command_of.Goals as goal

pub returns-then-bytes-eq79 : goal.returns-then-bytes-eq79
unfolding line_command
returns-then-bytes-eq79 c = c.open_command.ensures ∙ begins-o _ _ c.if-bytes-eq79.true

pub returns : goal.returns
unfolding line_command
returns c = c.move_command.ensures ∙ begins-else _ _ c.if-bytes-eq79.false
