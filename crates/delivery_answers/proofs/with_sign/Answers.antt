-- `with_sign` adds a minus of a negative amount (`sign-minus`) and nothing of another (`sign-none`).
use Rattle.file_text_print.proofs.Building.{one}
use Rattle.delivery_answers.proofs.ReplyTexts.{sign-minus, sign-none, none}
use Rattle.delivery_answers.proofs.with_sign.Goals as goal

pub returns-then-negative : goal.returns-then-negative
returns-then-negative c = sign-minus _ _ _ c.if-negative.true (one _ _ _ c.extend.ensures)

pub returns : goal.returns
returns c = sign-none _ _ _ c.if-negative.false (none _)
