-- A file of 65,537 bytes or more is refused with 1: whatever follows them changes nothing.
-- Assumes nothing.
use mathlib.Core.Path.{◌≡◌, refl, sym, ap, ◌∙◌}
use mathlib.Core.Bool.{true, false, ◌&&◌, and-false}
use mathlib.Core.List.{List, [], ◌++◌, append-nil}
use mathlib.Core.Logic.{◌⊎◌, inl, inr}
use Prim.Native.Nat.{ℕ, ◌%◌, ◌≤◌, ◌<◌}
use native.Mathlib.Omega.{arith}
use lib.Dec.{eqb, leb}
use lib.ListN.{length, length-append}
use borrow.Author.Tests.{ne_eqb, lt-leb}
use Rattle.questions.specs.Questions.{answer}
use Rattle.questions.proofs.Bools.{lt-or-ge}
use Rattle.questions.proofs.Asks.{first-no}
use Rattle.file_blocks.specs.Blocks.{length_right}
use Rattle.file_load.specs.Load.{load_asks, load_call}
use Rattle.session_text.specs.TermsText.{refusal_text}
use Rattle.file_text_print.specs.WholeText.{decompose_text}
use Rattle.file_text_print.proofs.WholeText.{refused-text}
use Rattle.program_runs.proofs.WholeInputs.{DecidedBy}
use Rattle.decompose_run.specs.DecomposeRefusals.{decompose_refused}

-- a file that is too long gets 1
long-refused : (f : List ℕ) → 65537 ≤ length f → (load_call f).refusal ≡ 1
unfolding load_call answer load_asks length_right
long-refused f h = first-no 1 _ (rw (lt-leb (length f) 65536 (omega arith)) (and-false (eqb (length f % 512) 0 && leb 1024 (length f))))

long-text : (f : List ℕ) → 65537 ≤ length f → decompose_text f ≡ refusal_text 1
long-text f h = refused-text f 1 (long-refused f h) (λ e. omega arith)

-- the answer is by load's refusal
pub refused-is : (f : List ℕ) → ((load_call f).refusal ≡ 0 → ⊥) → true ≡ decompose_refused f
unfolding decompose_refused
refused-is f n = rw (ne_eqb (load_call f).refusal 0 n) refl

pub accepted-is : (f : List ℕ) → (load_call f).refusal ≡ 0 → false ≡ decompose_refused f
unfolding decompose_refused
accepted-is f e = rw e refl

-- the first 65,537 bytes decide the text, and whether the file is refused
pub decided : DecidedBy 65537 decompose_text decompose_refused
decided = record { same_text = text; same-refused = refused }
  where
    text : (input rest : List ℕ) → (length input < 65537 → rest ≡ []) → decompose_text (input ++ rest) ≡ decompose_text input
    text input rest w = go (lt-or-ge (length input) 65537)
      where
        go : (length input < 65537) ⊎ (65537 ≤ length input) → decompose_text (input ++ rest) ≡ decompose_text input
        go (inl h) = ap (λ (x : List ℕ). decompose_text (input ++ x)) (w h) ∙ ap decompose_text (append-nil input)
        go (inr h) = long-text (input ++ rest) (omega (arith, length-append input rest)) ∙ sym (long-text input h)

    refused : (input rest : List ℕ) → (length input < 65537 → rest ≡ []) → decompose_refused (input ++ rest) ≡ decompose_refused input
    refused input rest w = go (lt-or-ge (length input) 65537)
      where
        yes_of : (f : List ℕ) → 65537 ≤ length f → true ≡ decompose_refused f
        yes_of f h = refused-is f (λ e. omega (arith, e, long-refused f h))

        go : (length input < 65537) ⊎ (65537 ≤ length input) → decompose_refused (input ++ rest) ≡ decompose_refused input
        go (inl h) = ap (λ (x : List ℕ). decompose_refused (input ++ x)) (w h) ∙ ap decompose_refused (append-nil input)
        go (inr h) = sym (yes_of (input ++ rest) (omega (arith, length-append input rest))) ∙ yes_of input h
