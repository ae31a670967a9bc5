-- A run of `reconcile` as a whole: how the two files were read, and what was read, written and told of the rows
-- (docs/DELIVERY.md, `reconcile`, from which the quotations are). Which bytes are written and told is required where they are.
-- Assumes nothing.
use Rattle.std.specs.Prelude.{ℕ, ◌≤◌, ◌≡◌, Bool, true, false, ◌&&◌, ◌||◌, List, eqb, length, take}
use Rattle.questions.specs.Questions.{first_no}
use Rattle.file_load.specs.Load.{load_asks}
use Rattle.delivery_notices.specs.Notices.{text_told}
use Rattle.delivery_reconciling.specs.ReconcileRuns.{ReconcileRan}
use Rattle.reconcile_rows.specs.declared.Reconciled.{Reconciled}
use Rattle.reconcile_run.specs.declared.FileRun.{FileRun}
use Rattle.reconcile_run.specs.declared.ReconcileEnded.{ReconcileEnded}

-- 'A `master.bin` that is refused: `master.bin: NO n`, and nothing else', and so of 'the first bad line' of the notices:
-- no row is read then
unfoldable pub reads_rows : List ℕ → List ℕ → Bool
reads_rows f notices = eqb (first_no (load_asks f)) 0 && eqb (text_told notices).bad 0

-- what a file and a text of notices give, with the rows of standard input where these are read
pub record RowsRun (f notices : List ℕ) (r : Reconciled) : Type 0 where
  pub ran : ReconcileRan f notices r.input r.sent r.told.bytes r.status
  -- where no row is read, nothing of standard input was read, no read failed, and standard output took all, which is nothing
  pub unread : reads_rows f notices ≡ false
      → (r.input.left ≡ 18446744073709551615) × (r.input.bytes ≡ 0) × (r.input.failed ≡ false) × (r.sent.open ≡ true)

-- 'A file that cannot be read .. ends the run with nothing more printed':
-- nothing was written, nothing else told, no row read, and the status is 2
pub record Unread (r : Reconciled) : Type 0 where
  pub unread : (r.input.left ≡ 18446744073709551615) × (r.input.bytes ≡ 0)
  pub none : r.sent.bytes ≡ 0
  pub untold : r.told.bytes ≡ 0
  pub status : r.status ≡ 2

-- what a file gives: the notices, which stand at the start of a buffer then, are read exactly where it is accepted
pub record OnFile (f buffer : List ℕ) (r : FileRun) : Type 0 where
  pub tried : r.notices.tried ≡ eqb (first_no (load_asks f)) 0
  pub fits : r.notices.length ≤ length buffer
  pub failed : r.notices.failed ≡ true → Unread r.rows
  pub ran : r.notices.failed ≡ false → RowsRun f (take r.notices.length buffer) r.rows

-- there is a file with as many bytes as were read of master.bin, and a text of notices with as many as were read of notices.txt,
-- which is read exactly where the file is accepted, and they give what the rows gave; that these are the bytes which were read is not said
pub record Files (r : ReconcileEnded) : Type 0 where
  pub file : List ℕ
  pub notices : List ℕ
  pub size : r.master.length ≡ length file
  pub long : r.notices.length ≡ length notices
  pub tried : r.notices.tried ≡ eqb (first_no (load_asks file)) 0
  pub ran : RowsRun file notices r.rows

-- a run: master.bin is read first, and where it cannot be, notices.txt is not read
pub record OnFiles (r : ReconcileEnded) : Type 0 where
  pub tried : r.master.tried ≡ true
  pub first : r.master.failed ≡ true → r.notices.tried ≡ false
  pub failed : (r.master.failed || r.notices.failed) ≡ true → Unread r.rows
  pub ran : r.master.failed ≡ false → r.notices.failed ≡ false → Files r
