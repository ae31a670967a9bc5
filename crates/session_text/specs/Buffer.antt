-- Texts in a lent buffer.
-- Assumes nothing.
use Rattle.std.specs.Prelude.{ℕ, ◌+◌, ◌≡◌, Bool, cond, List, ◌++◌, leb, length, take, drop}
use Rattle.std.proofs.lemmas.List.Edits.{sets}

-- of a buffer before and after: the text stands from `at` on, byte by byte, and `next` is the place after it
pub record Written (before after : List ℕ) (at next : ℕ) (text : List ℕ) : Type 0 where
  pub is : after ≡ sets before at text
  pub to : next ≡ at + length text
  pub long : length after ≡ length before

-- there is room for any answer: the longest has 496 bytes
unfoldable pub roomy : List ℕ → ℕ → Bool
roomy buffer at = leb (at + 512) (length buffer)

-- of a buffer before and after: with room the text stands from `at` on and nothing else is changed; without room nothing is
pub record Printed (before after : List ℕ) (at next : ℕ) (text : List ℕ) : Type 0 where
  pub is : after ≡ cond (roomy before at) (take at before ++ (text ++ drop (at + length text) before)) before
  pub to : next ≡ cond (roomy before at) (at + length text) at
  pub long : length after ≡ length before
