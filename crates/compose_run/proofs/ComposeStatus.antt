-- The length of the line that is told says whether the text is at fault; so the status of a run is that of its input.
-- Assumes nothing.
use Prim.Native.Nat.{ℕ, ◌%◌, ◌^◌}
use native.Mathlib.Omega.{arith}
use mathlib.Core.Path.{◌≡◌, sym, ap, ◌∙◌}
use mathlib.Core.Bool.{Bool, true, false, not, true≢false}
use mathlib.Core.List.{List}
use lib.Dec.{eqb}
use lib.ListN.{length}
use Rattle.file_text_told.specs.Whole.{compose_told, ComposeHandedOut}
use Rattle.file_text_told.proofs.Lengths.{told-short}
use Rattle.program_status.specs.Statuses.{status_of}
use Rattle.streams.specs.declared.reads.Input.{Input}
use Rattle.compose_run.specs.declared.output.ComposeHanded.{ComposeHanded}
use Rattle.compose_run.specs.declared.ComposeOutcome.{ComposeOutcome}
use Rattle.compose_run.specs.ComposeRuns.{compose_refused, ComposeRan, ComposeEnded}

refused-is : (input : List ℕ) (long : ℕ) → long ≡ length (compose_told input) → not (eqb long 0) ≡ compose_refused input
unfolding compose_refused
refused-is input long e = ap (λ (n : ℕ). not (eqb n 0)) e

-- a line of so many bytes was told
pub compose-ran : (n : ℕ) (h : ComposeHanded) (status long : ℕ) → ComposeHandedOut n h.sent.open h.sent.bytes h.told.bytes
    → h.told.bytes % 2 ^ 64 ≡ long
    → status ≡ status_of (not h.sent.open) (not (eqb long 0)) → ComposeRan n h status
compose-ran n h status long r t s =
    let e : long ≡ length (compose_told r.input) = omega (arith, t, r.said, told-short r.input) in
    record { ran = r; ends = s ∙ ap (λ (b : Bool). status_of (not h.sent.open) b) (refused-is r.input long e) }

-- a run that read its list
pub compose-read : (r : ComposeOutcome) (i : Input) → r.input ≡ i → i.left ≡ 0 → i.failed ≡ false
    → ComposeRan i.bytes r.handed r.status → ComposeEnded r
compose-read r i e l f a = rw e record { read = l; ran = λ _. a; unread = λ x. absurd (true≢false (sym x ∙ f)) }

-- a run whose list could not be read to its end
pub compose-unread : (r : ComposeOutcome) → r.input.left ≡ 0 → r.input.failed ≡ true → r.handed.sent.bytes ≡ 0 → r.handed.told.bytes ≡ 0
    → r.status ≡ status_of true false → ComposeEnded r
compose-unread r l f a b s = record { read = l; ran = λ x. absurd (true≢false (sym f ∙ x)); unread = λ _. (a, b, s) }
