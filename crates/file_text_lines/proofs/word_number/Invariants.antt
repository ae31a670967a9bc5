-- The loop keeps: `value` followed by the bytes that are left makes the number that the whole word makes, and value ≤ most (one-digit). The returns of
-- none are: no bytes, a byte that is no digit (no_digit), a number above the most (too-great); at the end the value is the number.
use Prim.Native.Nat.{◌≤◌}
use mathlib.Core.Path.{◌≡◌}
use lib.ListN.{drop}
use Rattle.file_text_lines.specs.Entries.{number_from}
use Rattle.file_text_lines.proofs.word_number.Given as goal

-- ---- what the loop keeps, and what falls
abbrev pub invariant-loop-byte : goal.invariant-loop-byte
invariant-loop-byte l = (l.value ≤ l.most) × (number_from l.most l.value (drop l.byte-index l.word) ≡ number_from l.most 0 l.word)
