-- The loop keeps: the words from word i on are those of the line from the place `from` on (words-next). A line that ends before word k
-- has no such word (word-beyond); at i = k the word goes up to the next space (word-here).
use Prim.Native.Nat.{◌≤◌}
use mathlib.Core.Path.{◌≡◌}
use lib.ListN.{length, drop}
use Rattle.file_text_lines.specs.Entries.{words_of}
use Rattle.file_text_lines.proofs.word_at.Given as goal

-- ---- what the loop keeps
abbrev pub invariant-loop-i : goal.invariant-loop-i
invariant-loop-i l = (l.from ≤ length l.line) × (drop l.i (words_of l.line) ≡ words_of (drop l.from l.line))
