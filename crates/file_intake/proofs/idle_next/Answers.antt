-- The days without trading after one day more, at most seven: none, one more, or seven still. The three returns are the cases of `idle_next`.
use native.Mathlib.Omega.{arith}
use native.Mathlib.Numerals.{add-one}
use borrow.Author.Tests.{lt-ltb, le-ltb}
use Rattle.file_intake.proofs.idle_next.Goals as goal

pub returns-then-trades : goal.returns-then-trades
returns-then-trades c = (simp c.if-trades.true, omega arith)

pub returns-then-idle-lt7 : goal.returns-then-idle-lt7
returns-then-idle-lt7 c = (simp (c.if-trades.false, lt-ltb _ _ c.if-idle-lt7.true, add-one), omega arith)

pub returns : goal.returns
returns c = (simp (c.if-trades.false, le-ltb _ _ c.if-idle-lt7.false), omega arith)
