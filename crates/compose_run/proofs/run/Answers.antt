-- A list that was read without a failure is answered; of another nothing is handed out, and the status is that of a failure.
use mathlib.Core.Path.{sym, ◌∙◌}
use Rattle.compose_run.proofs.ComposeStatus.{compose-read, compose-unread}
use Rattle.compose_run.proofs.run.Goals as goal

pub read_list-r-requires : goal.read_list-r-requires
read_list-r-requires c = sym c.large_buffer-records.ensures

pub returns-then-has_failed : goal.returns-then-has_failed
returns-then-has_failed c =
    let h = c.nothing_handed-handed.ensures in
    compose-unread _ c.read_list-r.ensures.0 (sym c.has_failed.ensures ∙ c.if-has_failed.true) h.0 h.1 c.status-status.ensures

pub answer-requires : goal.answer-requires
answer-requires c =
    let read = c.read_list-r.ensures in
    (read.0, sym c.has_failed.ensures ∙ c.if-has_failed.false, read.1)

pub returns : goal.returns
returns c =
    let a = c.answer.ensures in
    compose-read _ _ a.0 c.read_list-r.ensures.0 (sym c.has_failed.ensures ∙ c.if-has_failed.false) a.1
