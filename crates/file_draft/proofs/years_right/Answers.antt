-- Question 3 by the cover: every year is one of 2000 to 2099.
-- The four returns are: no years, a first year before 2000, one after 2099, and otherwise whether the last year is at most 2099.
use mathlib.Core.Path.{sym}
use native.Mathlib.Omega.{arith}
use Rattle.file_draft.proofs.Cover.{years-none, years-early, years-late, years-most}
use Rattle.file_draft.proofs.years_right.Goals as goal

pub returns-then-years-eq0 : goal.returns-then-years-eq0
returns-then-years-eq0 c = sym (years-none _ c.if-years-eq0.true)

pub returns-then-first-lt2000 : goal.returns-then-first-lt2000
returns-then-first-lt2000 c = sym (years-early _ (omega (arith, c.if-years-eq0.false)) c.if-first-lt2000.true)

pub returns-then-first-ge2100 : goal.returns-then-first-ge2100
returns-then-first-ge2100 c = sym (years-late _ (omega (arith, c.if-years-eq0.false)) c.if-first-ge2100.true)

pub returns : goal.returns
returns c = sym (years-most _ (omega (arith, c.if-years-eq0.false)) c.if-first-lt2000.false c.if-first-ge2100.false)
