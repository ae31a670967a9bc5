-- The line is short, so its bytes are the text.
use Rattle.delivery_answers.proofs.ReplyLengths.{bad-short}
use Rattle.delivery_queries.proofs.Answering.{short-line, put-short}
use Rattle.delivery_queries.proofs.put_bad.Goals as goal

pub put_line-requires : goal.put_line-requires
put_line-requires c = (short-line _ _ c.bad_question_line.ensures (bad-short _), c.requires)

pub returns : goal.returns
returns c = put-short _ _ c.bad_question_line.ensures (bad-short _) _ _ _ _ c.put_line.ensures
