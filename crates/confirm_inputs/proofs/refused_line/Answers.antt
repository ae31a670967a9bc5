-- A word, then a number or a name, then a line feed.
use Rattle.file_text_print.proofs.Building.{then, one, first}
use Rattle.confirm_inputs.specs.ConfirmInputs.{refused_text}
use Rattle.confirm_inputs.proofs.VerdictTexts.{bytes}
use Rattle.confirm_inputs.proofs.refused_line.Goals as goal

pub returns : goal.returns
unfolding refused_text
returns c =
    first c.empty_line.ensures
    (then (bytes c.feed-word.ensures) (then c.with_decimal.ensures (one _ _ _ c.extend.ensures)))
