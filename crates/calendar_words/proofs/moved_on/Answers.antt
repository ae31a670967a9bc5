-- A word of 64 days without its first w, followed by a word of w days. It is 0 where w is not below 64 or the second word has more than w days
-- (`not-moved`); else `moved-is`: the shifted word with the next word's bits is the definition's.
use Rattle.calendar_words.proofs.Equations.{no_word, is_word, not-moved, moved-is}
use mathlib.Core.Logic.{inl, inr}
use native.Mathlib.Omega.{arith}
use Rattle.calendar_words.proofs.moved_on.Goals as goal

pub returns-then-w-ge64 : goal.returns-then-w-ge64
returns-then-w-ge64 c = not-moved _ _ _ (inl c.if-w-ge64.true)

pub returns-then-next-w-gt0 : goal.returns-then-next-w-gt0
returns-then-next-w-gt0 c = not-moved _ _ _ (inr (no_word _ _ (omega (arith, c.if-next-w-gt0.true))))

pub returns : goal.returns
returns c = moved-is _ _ _ (omega arith) (is_word _ _ (omega (arith, c.if-next-w-gt0.false)))
