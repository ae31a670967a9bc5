-- `with_no` adds the bytes `NO`, then a space and the number: what the two calls add, joined.
use Rattle.file_text_print.proofs.Building.{then}
use Rattle.delivery_answers.specs.Replies.{no_text}
use Rattle.delivery_answers.proofs.ReplyTexts.{bytes}
use Rattle.delivery_answers.proofs.with_no.Goals as goal

pub returns : goal.returns
unfolding no_text
returns c = then (bytes _ _ _ c.feed.ensures) c.with_spaced.ensures
