-- A run of `reconcile`: how many bytes it writes and tells, after each piece and as a whole
-- (docs/DELIVERY.md, `reconcile`). Which bytes they are is required where they are written and told.
-- Assumes nothing.
use Rattle.std.specs.Prelude.{ℕ, ◌+◌, ◌*◌, ◌≤◌, ◌≡◌, true, false, not, List, ◌++◌, length}
use Rattle.program_status.specs.Statuses.{status_of}
use Rattle.streams.specs.declared.output.Sent.{Sent}
use Rattle.streams.specs.declared.reads.Input.{Input}
use Rattle.streams.specs.Transfers.{Grew}
use Rattle.streams.specs.Inputs.{ForInput}
use Rattle.file_ids.specs.Ids.{place_count}
use Rattle.table.specs.Table.{open_call}
use Rattle.delivery_notices.specs.Notices.{text_told}
use Rattle.delivery_parts.specs.PlaceParts.{parts_text}
use Rattle.delivery_reports.specs.Reports.{differences_heading}
use Rattle.delivery_receipts.specs.Receiving.{Lists, received_to}
use Rattle.delivery_reconciled.specs.Reconciled.{sum_to, keys_at, place_text, differences_text, differ_count, reconcile_text, reconcile_told}
use Rattle.delivery_reconciled.specs.Reconciled.{reconcile_refused}
use Rattle.delivery_judging.specs.declared.LinesPrinted.{LinesPrinted}

-- where standard output took all, as many bytes were written as the heading and the lines of all products have, modulo 2^64;
-- these lines are counted
pub record ProductsOut (f notices : List ℕ) (a : Lists) (rows : ℕ) (r : LinesPrinted) : Type 0 where
  pub text : r.sent.open ≡ true
      → Grew 0 (length (differences_heading ++ parts_text (place_text (open_call f) f (text_told notices) (received_to a rows)) (place_count f))) r.sent.bytes
  pub lines : r.lines ≡ sum_to (λ p. length (keys_at (open_call f) f (text_told notices) (received_to a rows) p)) (place_count f)
  pub few : r.lines ≤ 65536 * place_count f

-- the same with the lines of the ids that are not in the file
pub record DifferencesOut (f notices : List ℕ) (a : Lists) (rows : ℕ) (r : LinesPrinted) : Type 0 where
  pub text : r.sent.open ≡ true → Grew 0 (length (differences_text (open_call f) f (text_told notices) (received_to a rows))) r.sent.bytes
  pub lines : r.lines ≡ differ_count (open_call f) f (text_told notices) (received_to a rows)
  pub few : r.lines ≤ 65536 * place_count f + rows

-- a run on a file, a text of notices and an input: where standard output took all, as many bytes were written as `reconcile_text` of the three has,
-- and as many told as `reconcile_told` has, both modulo 2^64; the status is 2 where it did not take all, else as `reconcile_refused` says
pub record ReconciledOn (f notices : List ℕ) (sent : Sent) (told status : ℕ) (input : List ℕ) : Type 0 where
  pub text : sent.open ≡ true → Grew 0 (length (reconcile_text f notices input)) sent.bytes
  pub said : sent.open ≡ true → Grew 0 (length (reconcile_told f notices input)) told
  pub ends : status ≡ status_of (not sent.open) (reconcile_refused f notices input)

-- a run on a file and a text of notices: where no read failed, of every input that begins with the bytes that were counted,
-- and of them alone where no read is left; where one failed nothing was written, and the status is 2
pub record ReconcileRan (f notices : List ℕ) (i : Input) (sent : Sent) (told status : ℕ) : Type 0 where
  pub ran : i.failed ≡ false → ForInput i (ReconciledOn f notices sent told status)
  pub failed : i.failed ≡ true → (sent.bytes ≡ 0) × (status ≡ 2)
