-- What stands after a question is a space, the reply and a line feed on an empty line: what the four calls add, joined.
use Rattle.file_text_print.proofs.Building.{then, one, first}
use Rattle.delivery_answers.specs.Replies.{reply_line}
use Rattle.delivery_answers.proofs.reply_line.Goals as goal

pub returns : goal.returns
unfolding reply_line
returns c = first c.empty_line.ensures
    (then (one _ _ _ c.extend-space.ensures) (then c.with_reply-reply.ensures (one _ _ _ c.extend.ensures)))
