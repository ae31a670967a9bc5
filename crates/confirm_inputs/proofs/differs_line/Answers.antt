-- A word, then a number or a name, then a line feed.
use Rattle.file_text_print.proofs.Building.{then, one, first}
use Rattle.confirm_inputs.specs.ConfirmInputs.{differs_text}
use Rattle.confirm_inputs.proofs.VerdictTexts.{bytes}
use Rattle.confirm_inputs.proofs.differs_line.Goals as goal

pub returns : goal.returns
unfolding differs_text
returns c =
    first c.empty_line.ensures
    (then (bytes c.feed-word.ensures) (then c.with_name.ensures (one _ _ _ c.extend.ensures)))
