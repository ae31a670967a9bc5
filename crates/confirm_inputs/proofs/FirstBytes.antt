-- The first 65,537 bytes of an input decide its line: whatever follows them changes nothing.
-- Assumes nothing.
use mathlib.Core.Path.{◌≡◌, refl, ap, ◌∙◌}
use mathlib.Core.Bool.{Bool, not}
use mathlib.Core.List.{List, [], ◌++◌, append-nil}
use mathlib.Core.Logic.{◌⊎◌, inl, inr}
use Prim.Native.Nat.{ℕ, ◌≤◌, ◌<◌}
use native.Mathlib.Omega.{arith}
use lib.ListN.{length, length-append}
use lib.Seq.{take-append-le}
use borrow.Author.Tests.{lt-ltb}
use Rattle.questions.proofs.Bools.{lt-or-ge}
use Rattle.confirm_inputs.specs.ConfirmInputs.{confirm_text, is_yes, confirm_refused}

module _ (file input rest : List ℕ) where
  long : 65537 ≤ length input → confirm_text file (input ++ rest) ≡ confirm_text file input
  unfolding confirm_text
  long h =
      rw (
        lt-ltb 65536 (length (input ++ rest)) (omega (arith, length-append input rest)),
        lt-ltb 65536 (length input) (omega arith),
        take-append-le 65537 input rest h,
      ) refl

  -- an input that is followed by nothing where it is shorter has the same line
  pub confirm-same : (length input < 65537 → rest ≡ []) → confirm_text file (input ++ rest) ≡ confirm_text file input
  confirm-same w = go (lt-or-ge (length input) 65537)
    where
      go : (length input < 65537) ⊎ (65537 ≤ length input) → confirm_text file (input ++ rest) ≡ confirm_text file input
      go (inl h) = ap (λ (x : List ℕ). confirm_text file (input ++ x)) (w h) ∙ ap (confirm_text file) (append-nil input)
      go (inr h) = long h

  -- and the same status
  pub refused-same : (length input < 65537 → rest ≡ []) → confirm_refused file (input ++ rest) ≡ confirm_refused file input
  unfolding confirm_refused
  refused-same w = ap (λ (x : List ℕ). not (is_yes x)) (confirm-same w)

-- the status of a line whose bytes these are
pub refused-is : (file input line : List ℕ) (said : Bool) → line ≡ confirm_text file input → said ≡ is_yes line → not said ≡ confirm_refused file input
unfolding confirm_refused
refused-is file input line said e y = ap not (y ∙ ap is_yes e)
