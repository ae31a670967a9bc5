-- An input that is read into one buffer: to its end, or as far as the buffer holds, where whatever follows changes nothing.
-- Assumes nothing.
use Prim.Native.Nat.{ℕ, ◌≤◌, ◌<◌}
use native.Mathlib.Omega.{arith}
use mathlib.Core.Path.{◌≡◌, refl, sym, ◌∙◌}
use mathlib.Core.Bool.{Bool, true, false, true≢false}
use mathlib.Core.List.{List, [], ◌++◌}
use lib.ListN.{length, take}
use Rattle.program_status.specs.Statuses.{status_of}
use Rattle.streams.specs.declared.reads.Input.{Input}
use Rattle.streams.specs.declared.reads.Part.{Part}
use Rattle.streams.specs.declared.output.Sent.{Sent}
use Rattle.streams.specs.Inputs.{ReadOn, ForInput}
use Rattle.program_runs.specs.declared.AnswerOutcome.{AnswerOutcome}
use Rattle.program_runs.specs.AnsweredRuns.{failed_in, RunAnswered, RunAnsweredWith}

-- a text, and whether something is refused, that only the first bytes decide
pub record DecidedBy (most : ℕ) (text : List ℕ → List ℕ) (refused : List ℕ → Bool) : Type 0 where
  pub same_text : (input rest : List ℕ) → (length input < most → rest ≡ []) → text (input ++ rest) ≡ text input
  pub same-refused : (input rest : List ℕ) → (length input < most → rest ≡ []) → refused (input ++ rest) ≡ refused input

-- after a failure the status does not depend on what is refused
failed-status : (i : Input) (sent : Sent) (a b : Bool) → i.failed ≡ true → status_of (failed_in i sent) a ≡ status_of (failed_in i sent) b
unfolding status_of failed_in
failed-status i sent a b f = rw f refl

module _ (most : ℕ) (text : List ℕ → List ℕ) (refused : List ℕ → Bool) (i : Input) (buffer : List ℕ) (p : Part)
    (h : ReadOn i most buffer p) (z : i.bytes ≡ 0) (l : length buffer ≡ most) where
  -- what holds of the bytes that came, whatever follows them where they fill the buffer, holds of the input
  for-buffer : (holds : List ℕ → Type 0)
      → ((rest : List ℕ) → (length (take p.length buffer) < most → rest ≡ []) → holds (take p.length buffer ++ rest))
      → ForInput p.input holds
  for-buffer holds of =
      record {
        input = take p.length buffer;
        count = omega (arith, z, h.count, h.within.1);
        is = λ rest w. of rest (λ s. w (h.ended (omega (arith, s, h.within.1)) (omega (arith, s, h.within.1, l))));
      }

  -- a run whose input could not be read
  pub answers-unread : (r : AnswerOutcome) → r.input ≡ p.input → p.input.failed ≡ true → r.sent.bytes ≡ 0
      → r.status ≡ status_of (failed_in p.input r.sent) false → RunAnswered text refused r
  answers-unread r e f n s =
      rw e record {
        of = for-buffer _ (λ rest w. (λ x. absurd (true≢false (sym f ∙ x)), s ∙ failed-status p.input r.sent false _ f));
        none = λ _. n;
      }

  -- a run that answers the bytes that came
  pub answers-all : DecidedBy most text refused → (r : AnswerOutcome) → r.input ≡ p.input → p.input.failed ≡ false
      → (r.sent.open ≡ true → r.sent.bytes ≡ length (text (take p.length buffer)))
      → r.status ≡ status_of (failed_in p.input r.sent) (refused (take p.length buffer)) → RunAnswered text refused r
  answers-all d r e f n s =
      rw e record {
        of = for-buffer _ (λ rest w. rw (d.same_text (take p.length buffer) rest w, d.same-refused (take p.length buffer) rest w) (λ _ o. n o, s));
        none = λ x. absurd (true≢false (sym x ∙ f));
      }

-- a run with the bytes that came of a file
pub answers_with : (text : List ℕ → List ℕ → List ℕ) (refused : List ℕ → List ℕ → Bool) (r : AnswerOutcome) (file : List ℕ)
    → RunAnswered (text file) (refused file) r
    → length file ≤ 65537 → RunAnsweredWith text refused r
answers_with text refused r file a h = record { file = file; few = h; is = a }
