-- An entry that may not stand there is a bad line; another changes the calendar, the records and the faults.
use Rattle.file_text_read.proofs.ListLines.{taken-bad, taken-good}
use Rattle.file_text_read.proofs.take_entry.Goals as goal

pub returns-then-not-entry_fits : goal.returns-then-not-entry_fits
returns-then-not-entry_fits c =
    taken-bad c.args.taken _ _ _ c.next_line-lines.ensures _ c.entry_fits.ensures
    c.if-not-entry_fits.true _ c.count_line.ensures

pub returns : goal.returns
returns c =
    taken-good c.args.taken _ c.args.e _ c.next_line-lines.ensures _ c.entry_fits.ensures
    c.if-not-entry_fits.false _ c.faults_after-faults.ensures _ c.calendar_after-after.ensures _ _
    c.store_entry-size.ensures
