-- The line of a bad question is `BAD `, its number and a line feed on an empty line: what the four calls add, joined.
use Rattle.file_text_print.proofs.Building.{then, one, first}
use Rattle.delivery_answers.proofs.ReplyTexts.{bytes}
use Rattle.delivery_answers.specs.Replies.{bad_question_text}
use Rattle.delivery_answers.proofs.bad_question_line.Goals as goal

pub returns : goal.returns
unfolding bad_question_text
returns c = first c.empty_line.ensures
    (then (bytes _ _ _ c.feed-bad.ensures) (then c.with_number.ensures (one _ _ _ c.extend.ensures)))
