-- A whole run of `terms` (01, March 2008 and its neighbours, 'The program `terms`'; docs/OPERATIONS.md, 'The status').
-- Assumes nothing.
use Rattle.std.specs.Prelude.{ℕ, ◌≡◌, Bool, true, not, ◌||◌, List, length}
use Rattle.program_status.specs.Statuses.{status_of}
use Rattle.streams.specs.declared.reads.Input.{Input}
use Rattle.streams.specs.Inputs.{ForInput}
use Rattle.session_handing.specs.declared.output.SentText.{SentText}
use Rattle.session_command.specs.Sessions.{terms_text, terms_refused}
use Rattle.session_parts.specs.TermsParts.{counted}
use Rattle.terms_run.specs.declared.TermsOutcome.{TermsOutcome}

-- '2 input or output failed': a read of standard input failed, or standard output did not take all; a file that cannot be read counts as empty
abbrev pub terms_failed : TermsOutcome → Bool
terms_failed r = r.input.failed || not r.text.sent.open

-- only the code needs it: the end of a run with its status
abbrev pub ended_with : ℕ → Input → SentText → Bool → TermsOutcome
ended_with master input text refused =
    record { master = master; input = input; text = text; status = status_of (input.failed || not text.sent.open) refused }

-- a run: of a file with as many bytes as were read of it, none where it could not be read; that they are the bytes which were read is not said
pub record TermsRan (r : TermsOutcome) : Type 0 where
  pub file : List ℕ
  pub file-long : r.master ≡ length file
  pub failed : terms_failed r ≡ true → r.status ≡ 2
  -- where the output took all, as many bytes as the text has of an input with as many bytes as were read, modulo 2^64, after the last read;
  -- and where no read failed, the status says whether an answer was `NO n` or `BAD`
  pub text : r.text.sent.open ≡ true
      → ForInput r.input (λ input. (r.text.sent.bytes ≡ counted 0 (length (terms_text file input)))
      × (r.status ≡ status_of (terms_failed r) (terms_refused file input)))
