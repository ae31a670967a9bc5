-- The search reads the first map alone.
use mathlib.Core.Path.{◌∙◌}
use Rattle.file_text_faults.proofs.FirstIdleRun.{idle-second}
use Rattle.file_text_faults.proofs.first_idle.Goals as goal

pub returns : goal.returns
returns c = c.first_idle_in.ensures ∙ idle-second _
