-- The end of a run of `gateway`, with its status (docs/OPERATIONS.md, 'The status'). Assumes nothing.
use Rattle.std.specs.Prelude.{ℕ, ◌≡◌, Bool, true, false, not, cond, List, eqb, length}
use Rattle.file_intake.specs.declared.Taken.{Taken}
use Rattle.file_intake.specs.Intake.{finish_call}
use Rattle.file_intake_text.specs.GatewayTexts.{piece_count, handed_over, gateway_text, GatewayRan}
use Rattle.program_status.specs.Statuses.{status_of}
use Rattle.streams.specs.Inputs.{ForInput}
use Rattle.gateway_run.specs.declared.GatewayOutcome.{GatewayOutcome}

-- the refusal after some calls, or of the final call where none was refused; 0 where that accepts the file
unfoldable pub taken_refusal : Taken → ℕ
taken_refusal t = cond (eqb t.refusal 0) (finish_call t.state).refusal t.refusal

-- '1 something was refused': the input of N announced blocks has a refusal
unfoldable pub gateway_refused : ℕ → List ℕ → Bool
gateway_refused n input = not (eqb (taken_refusal (handed_over n input (piece_count input))) 0)

-- the end of a run: what was handed out, and the status:
-- after a read that failed it is that of a failure;
-- else, of every input that begins with as many bytes as were read, as many bytes were handed out as its text has,
-- and the status is by whether standard output took all, and whether that input is refused
pub record GatewayEnded (n : ℕ) (r : GatewayOutcome) : Type 0 where
  pub ran : GatewayRan n r.input r.sent.bytes
  pub unread : r.input.failed ≡ true → r.status ≡ status_of true false
  pub of : r.input.failed ≡ false → ForInput r.input
      (λ input. (r.sent.bytes ≡ length (gateway_text n input)) × (r.status ≡ status_of (not r.sent.open) (gateway_refused n input)))
