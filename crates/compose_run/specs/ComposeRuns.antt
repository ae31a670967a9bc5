-- The end of a run of `compose`, with its status (docs/OPERATIONS.md, 'The status'). Assumes nothing.
use Rattle.std.specs.Prelude.{ℕ, ◌≡◌, Bool, true, false, not, List, eqb, length}
use Rattle.file_text_told.specs.Whole.{compose_told, ComposeHandedOut}
use Rattle.program_status.specs.Statuses.{status_of}
use Rattle.compose_run.specs.declared.output.ComposeHanded.{ComposeHanded}
use Rattle.compose_run.specs.declared.ComposeOutcome.{ComposeOutcome}

-- '1 something was refused, bad or differs': the text is at fault, and something is told of it
unfoldable pub compose_refused : List ℕ → Bool
compose_refused input = not (eqb (length (compose_told input)) 0)

-- the end of a run that read its input, of which n bytes were counted: what was handed out,
-- and the status, which is by whether standard output took all, and whether that input is at fault
pub record ComposeRan (n : ℕ) (h : ComposeHanded) (status : ℕ) : Type 0 where
  pub ran : ComposeHandedOut n h.sent.open h.sent.bytes h.told.bytes
  pub ends : status ≡ status_of (not h.sent.open) (compose_refused ran.input)

-- the end of a run: no read is left; where none failed this is the end, for the input that was read;
-- else nothing was handed out, and the status is that of a failure
pub record ComposeEnded (r : ComposeOutcome) : Type 0 where
  pub read : r.input.left ≡ 0
  pub ran : r.input.failed ≡ false → ComposeRan r.input.bytes r.handed r.status
  pub unread : r.input.failed ≡ true → (r.handed.sent.bytes ≡ 0) × (r.handed.told.bytes ≡ 0) × (r.status ≡ status_of true false)
