-- What a run of `reconcile` leaves of rows, in the code's words. Only the code needs these.
-- Assumes nothing.
use Rattle.std.specs.Prelude.{◌≡◌, Bool, true, false, not, ◌||◌, ltb}
use Rattle.program_status.specs.Statuses.{status_of}
use Rattle.streams.specs.declared.output.Told.{Told}
use Rattle.delivery_reading.specs.declared.RowsRead.{RowsRead}
use Rattle.delivery_judging.specs.declared.LinesPrinted.{LinesPrinted}
use Rattle.reconcile_rows.specs.declared.Reconciled.{Reconciled}

-- after rows of which nothing is printed, as a read failed or one was too many
pub record Stopped (read : RowsRead) (r : Reconciled) : Type 0 where
  pub input : r.input ≡ read.input
  pub taken : r.sent.open ≡ true
  pub none : r.sent.bytes ≡ 0
  pub told : r.told ≡ read.kept.told
  pub status : r.status ≡ status_of read.input.failed true

-- after the differences were printed, where an opening was refused or not
pub record Finished (read : RowsRead) (refused : Bool) (p : LinesPrinted) (told : Told) (r : Reconciled) : Type 0 where
  pub input : r.input ≡ read.input
  pub sent : r.sent ≡ p.sent
  pub last : r.told ≡ told
  pub ends : r.status ≡ status_of (not p.sent.open) (refused || (ltb 0 read.kept.bad || ltb 0 p.lines))

-- no row is read, and nothing written; a file could not be read, or one was refused
pub record NoRows (told : Told) (failed : Bool) (r : Reconciled) : Type 0 where
  pub unread : (r.input.left ≡ 18446744073709551615) × (r.input.bytes ≡ 0) × (r.input.failed ≡ false)
  pub taken : r.sent.open ≡ true
  pub none : r.sent.bytes ≡ 0
  pub said : r.told ≡ told
  pub ends : r.status ≡ status_of failed true
