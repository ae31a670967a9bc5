-- A word, then a number or a name, then a line feed.
use Rattle.file_text_print.proofs.Building.{then, one, first}
use Rattle.confirm_inputs.specs.ConfirmInputs.{bad_input_text}
use Rattle.confirm_inputs.proofs.VerdictTexts.{bytes}
use Rattle.confirm_inputs.proofs.bad_input_line.Goals as goal

pub returns : goal.returns
unfolding bad_input_text
returns c =
    first c.empty_line.ensures
    (then (bytes c.feed-word.ensures) (then c.with_decimal.ensures (one _ _ _ c.extend.ensures)))
