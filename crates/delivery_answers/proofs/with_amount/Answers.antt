-- `with_amount` adds the sign, the whole number, a point and the two parts of four digits: what the five calls add, joined as in `amount_text`.
use Rattle.file_text_print.proofs.Building.{then, one}
use Rattle.delivery_answers.specs.Replies.{amount_text}
use Rattle.delivery_answers.proofs.with_amount.Goals as goal

pub returns : goal.returns
unfolding amount_text
returns c = then c.with_sign-sign.ensures
    (then c.with_number-whole.ensures
    (then (one _ _ _ c.extend-point.ensures) (then c.with_four-parts.ensures c.with_four.ensures)))
