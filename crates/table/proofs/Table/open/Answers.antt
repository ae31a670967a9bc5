-- Shown: the answer is the definition's open, from the file alone. The verdict is the file's own, by `judge`, and with it
-- what `open_in` gives is the definition's open (`open_is`).
use Rattle.table.proofs.Opens.{open_is}
use mathlib.Core.Path.{◌∙◌}
use Rattle.table.proofs.Table.open.Goals as goal

pub returns : goal.returns
returns c = (rw c.judge-judged.ensures at c.open_in.ensures) ∙ open_is _ _ _
