-- The first of March in the year 2000 + i, counted from the year's first day: 60 where 4 divides i, else 59. The two cases are the definition's.
use Rattle.days.specs.Dates.{march_in}
use native.Mathlib.Omega.{arith}
use borrow.Author.Tests.{eq-eqb, ne_eqb}
use Rattle.days.proofs.march_in.Goals as goal

pub returns-then-i-eq0 : goal.returns-then-i-eq0
unfolding march_in
returns-then-i-eq0 c = (rw (eq-eqb _ _ c.if-i-eq0.true), omega arith)

pub returns : goal.returns
unfolding march_in
returns c = (rw (ne_eqb _ _ c.if-i-eq0.false), omega arith)
