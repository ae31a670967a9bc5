-- Four numbers and the words between them, one after the other.
use Rattle.file_text_print.proofs.Building.{first, then}
use Rattle.delivery_answers.proofs.ReplyTexts.{bytes}
use Rattle.delivery_reconciled.specs.Reconciled.{summary_text}
use Rattle.delivery_reconciled.proofs.summary_line.Goals as goal

pub returns : goal.returns
unfolding summary_text
returns c =
    first c.empty_line.ensures
    (then c.with_number-first.ensures
    (then (bytes _ _ _ c.feed.ensures)
    (then c.with_number-second.ensures
    (then (bytes _ _ _ c.feed-2.ensures)
    (then c.with_number-third.ensures
    (then (bytes _ _ _ c.feed-3.ensures) (then c.with_number-last.ensures (bytes _ _ _ c.feed-4.ensures))))))))
