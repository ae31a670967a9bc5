-- The first byte of the line says whether the input is refused; so the status of a run is that of its input.
-- Assumes nothing.
use Prim.Native.Nat.{ℕ}
use native.Mathlib.Omega.{arith}
use mathlib.Core.Path.{◌≡◌, refl, ap, ◌∙◌}
use mathlib.Core.Bool.{Bool, true, false, not, ◌||◌, cond}
use mathlib.Core.List.{List, ◌++◌}
use lib.Dec.{eqb}
use lib.ListN.{length, get_or}
use Rattle.questions.specs.Questions.{Answer}
use Rattle.session_text.specs.TermsText.{spaced, refusal_text}
use Rattle.file_load.specs.declared.Counts.{Counts}
use Rattle.file_intake.specs.declared.Taken.{Taken}
use Rattle.file_intake.specs.Intake.{finish_call}
use Rattle.file_intake_text.specs.declared.Ended.{Ended}
use Rattle.file_intake_text.specs.GatewayTexts.{counts_text, result_text, taken_text, handed_over, gateway_text, ended_answer, ended_text, GatewaySays, piece_count}
use Rattle.file_intake_text.proofs.Pieces.{gateway-ran}
use Rattle.program_status.specs.Statuses.{status_of}
use Rattle.streams.specs.Inputs.{ForInput}
use Rattle.gateway_run.specs.declared.GatewayOutcome.{GatewayOutcome}
use Rattle.gateway_run.specs.GatewayRuns.{taken_refusal, gateway_refused, GatewayEnded}

-- ---- the first byte of a line, O or N

result-first : (a : Answer Counts) → get_or (result_text a) 0 0 ≡ cond (eqb a.refusal 0) 79 78
unfolding result_text counts_text refusal_text spaced
result-first a = go (eqb a.refusal 0)
  where
    go : (b : Bool) → get_or (cond b (counts_text a.value) (refusal_text a.refusal)) 0 0 ≡ cond b 79 78
    go true = refl
    go false = refl

taken-first : (t : Taken) → get_or (taken_text t) 0 0 ≡ cond (eqb (taken_refusal t) 0) 79 78
unfolding taken_text taken_refusal refusal_text spaced
taken-first t = go (eqb t.refusal 0) refl
  where
    go : (b : Bool) → eqb t.refusal 0 ≡ b
        → get_or (cond b (result_text (finish_call t.state)) (refusal_text t.refusal)) 0 0
        ≡ cond (eqb (cond b (finish_call t.state).refusal t.refusal) 0) 79 78
    go true e = result-first (finish_call t.state)
    go false e = rw e refl

same-letter : (a b : Bool) (x y : ℕ) → x ≡ cond a 79 78 → y ≡ cond b 79 78 → x ≡ y → a ≡ b
same-letter true true x y p q e = refl
same-letter true false x y p q e = absurd (omega (arith, p, q, e))
same-letter false true x y p q e = absurd (omega (arith, p, q, e))
same-letter false false x y p q e = refl

refused-is : (n : ℕ) (e : Ended) (input : List ℕ) → ended_text e ≡ gateway_text n input → not (eqb e.refusal 0) ≡ gateway_refused n input
unfolding ended_text gateway_text gateway_refused
refused-is n e input q =
    ap not (same-letter (eqb e.refusal 0) (eqb (taken_refusal (handed_over n input (piece_count input))) 0) _ _
    (result-first (ended_answer e)) (taken-first (handed_over n input (piece_count input))) (ap (λ (t : List ℕ). get_or t 0 0) q))

-- ---- the status

failed-status : (a b c : Bool) → a ≡ true → status_of (a || b) c ≡ status_of true false
unfolding status_of
failed-status a b c e = rw e refl

read-status : (a b c d : Bool) → a ≡ false → c ≡ d → status_of (a || b) c ≡ status_of b d
read-status a b c d e q = rw (e, q) refl

-- the line of what a run ended with was written, and the status is by it
pub gateway-ended : (n : ℕ) (e : Ended) (r : GatewayOutcome) → GatewaySays n r.input (ended_text e) → r.sent.bytes ≡ length (ended_text e)
    → r.status ≡ status_of (r.input.failed || not r.sent.open) (not (eqb e.refusal 0)) → GatewayEnded n r
gateway-ended n e r says count s =
    record {
      ran = gateway-ran n r.input (ended_text e) r.sent.bytes says count;
      unread = λ f. s ∙ failed-status r.input.failed (not r.sent.open) (not (eqb e.refusal 0)) f;
      of = λ f. told f (says.1 f);
    }
  where
    told : r.input.failed ≡ false → ForInput r.input (λ input. ended_text e ≡ gateway_text n input) → ForInput r.input
        (λ input. (r.sent.bytes ≡ length (gateway_text n input)) × (r.status ≡ status_of (not r.sent.open) (gateway_refused n input)))
    told f h =
        record {
          input = h.input;
          count = h.count;
          is = λ rest w. (
            count ∙ ap length (h.is rest w),
            s ∙ read-status r.input.failed (not r.sent.open) (not (eqb e.refusal 0)) (gateway_refused n (h.input ++ rest)) f
                (refused-is n e (h.input ++ rest) (h.is rest w)),
          );
        }
