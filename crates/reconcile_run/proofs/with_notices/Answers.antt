-- A bad line is told, and nothing else; else the rows are judged.
use Rattle.questions.proofs.Bools.{clash}
use Rattle.reconcile_run.proofs.Fits.{notices-held, bad-line, bad-reads, good-reads, refused-ran}
use borrow.Author.Rules.{rules}
use Rattle.reconcile_run.proofs.with_notices.Goals as goal

pub tell_refused-told-requires : goal.tell_refused-told-requires
tell_refused-told-requires c =
    bad-line _ _ _ c.requires.0 c.requires.1 _ _ c.read_notices-t.result
    (notices-held _ _ _ _ _ _ c.read_notices-t.ensures (search rules) (search rules)) c.if-bad-ne0.true _
    c.bad_notice_line.ensures

pub returns-then-bad-ne0 : goal.returns-then-bad-ne0
returns-then-bad-ne0 c =
    refused-ran _ _
    (bad-reads _ _ c.requires.0 c.requires.1 _ _ _ c.read_notices-t.result
    (notices-held _ _ _ _ _ _ c.read_notices-t.ensures (search rules) (search rules)) c.if-bad-ne0.true) _
    c.tell_refused-told.ensures _ c.no_rows.ensures

pub returns : goal.returns
returns c =
    let held = notices-held _ _ _ _ _ _ c.read_notices-t.ensures (search rules) (search rules) in
    record {
      ran =
          c.reconcile_rows.ensures
          (record { size = c.requires.2; own = c.requires.0; accepted = c.requires.1; held = held; good = c.if-bad-ne0.false });
      unread = λ e. clash (good-reads _ _ c.requires.0 c.requires.1 _ _ _ c.read_notices-t.result
          held c.if-bad-ne0.false) e;
    }
