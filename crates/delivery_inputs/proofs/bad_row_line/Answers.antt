-- The name of the input, the number and `: BAD`, one after the other.
use Rattle.file_text_print.proofs.Building.{first, then}
use Rattle.delivery_answers.proofs.ReplyTexts.{bytes}
use Rattle.delivery_inputs.specs.ReconcileInputs.{bad_row_text}
use Rattle.delivery_inputs.proofs.bad_row_line.Goals as goal

pub returns : goal.returns
unfolding bad_row_text
returns c =
    first c.empty_line.ensures
    (then (bytes _ _ _ c.feed-name.ensures) (then c.with_number-number.ensures (bytes _ _ _ c.feed.ensures)))
