-- The bytes of the word are fed to an empty line.
use Rattle.file_text_print.proofs.Building.{first}
use Rattle.confirm_inputs.proofs.VerdictTexts.{bytes}
use Rattle.confirm_inputs.proofs.yes_line.Goals as goal

pub returns : goal.returns
returns c = first c.empty_line.ensures (bytes c.feed.ensures)
