-- What a run of `query` leaves: what was read, written and told (docs/DELIVERY.md, `query`, from which the quotations are).
-- Assumes nothing.
use Rattle.std.specs.Prelude.{◌≡◌, Bool, true, false, not, ◌||◌, List, ◌⊎◌, ℕ, length}
use Rattle.questions.specs.Questions.{first_no}
use Rattle.file_load.specs.Load.{load_asks}
use Rattle.session_parts.specs.TermsParts.{counted}
use Rattle.delivery_notices.specs.Notices.{text_told}
use Rattle.streams.specs.Inputs.{ForInput}
use Rattle.program_status.specs.Statuses.{status_of}
use Rattle.streams.specs.declared.calls.Transfer.{Transfer}
use Rattle.delivery_queries.specs.Queries.{query_text, query_refused, query_told}
use Rattle.query_run.specs.declared.QuestionsAnswered.{QuestionsAnswered}
use Rattle.query_run.specs.declared.QueryOutcome.{QueryOutcome}

-- no read of standard input was made, as all are left, and nothing was written
pub record NothingAnswered (r : QuestionsAnswered) : Type 0 where
  pub unread : (r.input.left ≡ 18446744073709551615) × (r.input.bytes ≡ 0) × (r.input.failed ≡ false)
  pub unsent : (r.sent.open ≡ true) × (r.sent.bytes ≡ 0)

-- on a file and notices that were read
pub record QueryAnswered (f notices : List ℕ) (r : QuestionsAnswered) : Type 0 where
  -- 'Standard error has `master.bin: NO n` or `notices.txt:K: BAD`, or nothing':
  -- as many bytes were told as the definition's text has
  pub told : r.told.bytes ≡ length (query_told f notices)
  -- of a file that is refused, and of notices with a bad line, no question is read and nothing is written
  pub refused : (first_no (load_asks f) ≡ 0 → (text_told notices).bad ≡ 0 → ⊥) → NothingAnswered r
  -- where no read failed and the output took all, as many bytes were written as the text has of an input with as many bytes as were read, to its end,
  -- and whether something is refused or bad is what the definition says of the same input
  pub text : r.sent.open ≡ true → r.input.failed ≡ false → ForInput r.input
      (λ input. (r.sent.bytes ≡ counted 0 (length (query_text f notices input))) × (r.refused ≡ query_refused f notices input))

-- a file or standard input could not be read, or the output did not take all
unfoldable pub run_failed : Transfer → Transfer → QuestionsAnswered → Bool
run_failed file notices a = file.failed || (notices.failed || (a.input.failed || not a.sent.open))

-- only the code needs it: a run by what it read and answered, with its status
abbrev pub query_outcome : Transfer → Transfer → QuestionsAnswered → QueryOutcome
query_outcome file notices a = record { file = file; notices = notices; answered = a; status = status_of (run_failed file notices a) a.refused }

-- a run: there are a file and notices with as many bytes as were read; that they are those which were read is not said.
-- The notices of a file that is refused are not read, and have no bytes here
pub record QueryRunEnds (r : QueryOutcome) : Type 0 where
  pub master : List ℕ
  pub master-long : r.file.failed ≡ false → length master ≡ r.file.length
  pub notices : List ℕ
  pub notices-long : r.notices.failed ≡ false → length notices ≡ r.notices.length
  -- one that cannot be read ends the run: no question is read, nothing is written, and nothing is told but the system's reason
  pub failed : (r.file.failed ≡ true) ⊎ (r.notices.failed ≡ true) → NothingAnswered r.answered × (r.answered.told.bytes ≡ 0)
  pub answered : r.file.failed ≡ false → r.notices.failed ≡ false → QueryAnswered master notices r.answered
  -- by `whole-status` (proofs, QueryWholeRun) it is then, of a run that did not fail, 1 where `query_refused` says so of the same input, else 0
  pub status : r.status ≡ status_of (run_failed r.file r.notices r.answered) r.answered.refused
