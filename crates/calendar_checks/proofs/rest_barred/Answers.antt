-- The word of 32 days has those after six times eight weeks that may not be closed. By the law `rest-barred` with the number of days left: 30 where
-- 4 divides the year, and the last two bits lie after its end (`rest-leap`), else 29, and the last three do (`rest-other`).
use Rattle.calendar_checks.proofs.Maps.{rest-barred, rest-leap, rest-other}
use Rattle.calendar_words.proofs.DayWords.{last-days}
use native.Mathlib.Omega.{arith}
use Rattle.calendar_checks.proofs.rest_barred.Goals as goal

pub returns-then-year-eq0 : goal.returns-then-year-eq0
returns-then-year-eq0 c = rest-barred _ _ c.requires 3 30 (rest-leap _ c.if-year-eq0.true) (omega arith) last-days.0

pub returns : goal.returns
returns c = rest-barred _ _ c.requires 7 29 (rest-other _ c.if-year-eq0.false) (omega arith) last-days.1
