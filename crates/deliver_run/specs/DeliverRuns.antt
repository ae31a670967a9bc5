-- A whole run of `deliver` (docs/DELIVERY.md, `deliver`; docs/OPERATIONS.md, 'The status').
-- Assumes nothing.
use Rattle.std.specs.Prelude.{ℕ, ◌≡◌, Bool, true, false, not, ◌||◌, List, length}
use Rattle.program_status.specs.Statuses.{status_of}
use Rattle.delivery_parts.specs.PlaceParts.{deliver_text, deliver_refusals, deliver_refused}
use Rattle.deliver_run.specs.declared.DeliverOutcome.{DeliverOutcome}

-- '2 input or output failed': a file could not be read, or standard output did not take all
abbrev pub deliver_failed : DeliverOutcome → Bool
deliver_failed r = r.master.failed || (r.notices.failed || not r.handed.sent.open)

-- a run: of a file and of notices with as many bytes as were read of the two; that they are the bytes which were read is not said
pub record DeliverRan (r : DeliverOutcome) : Type 0 where
  pub file : List ℕ
  pub notices : List ℕ
  pub file-long : r.master.length ≡ length file
  pub notices-long : r.notices.length ≡ length notices
  -- where both were read and standard output took all, as many bytes were written and told as the definition's two texts have
  pub rows : deliver_failed r ≡ false → r.handed.sent.bytes ≡ length (deliver_text file notices)
  pub told : deliver_failed r ≡ false → r.handed.told ≡ length (deliver_refusals file notices)
  -- where one of them was not read, nothing was handed out
  pub nothing : (r.master.failed || r.notices.failed) ≡ true → (r.handed.sent.bytes ≡ 0) × (r.handed.told ≡ 0)
  pub status : r.status ≡ status_of (deliver_failed r) (deliver_refused file notices)
