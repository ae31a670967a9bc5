-- The end of a run that answers one input (docs/OPERATIONS.md, 'The status'). Assumes nothing.
use Rattle.std.specs.Prelude.{ℕ, ◌≤◌, ◌≡◌, Bool, true, false, not, ◌||◌, List, length}
use Rattle.program_status.specs.Statuses.{status_of}
use Rattle.streams.specs.declared.reads.Input.{Input}
use Rattle.streams.specs.declared.output.Sent.{Sent}
use Rattle.streams.specs.Inputs.{ForInput}
use Rattle.program_runs.specs.declared.AnswerOutcome.{AnswerOutcome}

-- a read of standard input failed, or standard output did not take all
unfoldable pub failed_in : Input → Sent → Bool
failed_in i sent = i.failed || not sent.open

-- the end of a run, by the text that is printed of each input, and by whether something is refused there
-- which bytes were written is not said here: the function that hands them out requires it
pub record RunAnswered (text : List ℕ → List ℕ) (refused : List ℕ → Bool) (r : AnswerOutcome) : Type 0 where
  -- of every input that begins with the bytes that were read: where no read failed and standard output took all,
  -- it took as many bytes as the text has; and the status
  pub of : ForInput r.input
      (λ input. (r.input.failed ≡ false → r.sent.open ≡ true → r.sent.bytes ≡ length (text input))
      × (r.status ≡ status_of (failed_in r.input r.sent) (refused input)))
  -- of an input that could not be read nothing is printed
  pub none : r.input.failed ≡ true → r.sent.bytes ≡ 0

-- the same of a run that reads a file too, with some bytes of it, 65,537 at most; that they are those which were read is not said
pub record RunAnsweredWith (text : List ℕ → List ℕ → List ℕ) (refused : List ℕ → List ℕ → Bool) (r : AnswerOutcome) : Type 0 where
  pub file : List ℕ
  pub few : length file ≤ 65537
  pub is : RunAnswered (text file) (refused file) r
